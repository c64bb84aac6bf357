pub mod KeyLists
pub mod ListsBegun
