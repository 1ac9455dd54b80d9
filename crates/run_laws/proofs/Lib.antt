pub mod RunLemmas
pub mod StoreLemmas
pub mod OneList
pub mod Texts
pub mod NamedLists
pub mod FilesRead
pub mod Refusing
pub mod Repeating
pub mod SameProblem
pub mod Checking
pub mod Agrees
pub mod Lifting
pub mod OfTheirLoads
pub mod FilesProblemLemmas
pub mod Telling
mod Ending
pub mod Shown
mod AnswerStatus
mod SolveTells
mod CheckTells
mod JudgeTells
mod ListTells
mod AuditTells
mod BoardTells
mod WorkerTells
pub mod Listings
mod LaterLists
mod Joined
mod Agreement
mod WhichExamples
mod HeadlineExamples
pub mod Boards
pub mod Judgments
