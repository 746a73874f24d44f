pub mod ReadLists
