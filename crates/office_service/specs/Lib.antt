pub mod Ends
pub mod Copies
pub mod FolderArchive
