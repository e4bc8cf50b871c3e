pub mod Changes
pub mod Held
pub mod KeyLists
pub mod KindLists
pub mod Relisted
pub mod ServerKeys
