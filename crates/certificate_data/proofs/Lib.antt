pub mod TreeLists
pub mod ListLaws
pub mod CopyLaws
