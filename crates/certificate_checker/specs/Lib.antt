pub mod ReadableTrees
pub mod Feeding
pub mod Judging
pub mod Knowing
pub mod Certificates
pub mod Answers
pub mod TreeAnswers
pub mod CertificateAnswers
