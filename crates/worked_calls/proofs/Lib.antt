pub mod GroupLists
