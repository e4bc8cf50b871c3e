pub mod Among
pub mod Attached
pub mod AuthzKeys
pub mod Backends
pub mod ByAddress
pub mod Entries
pub mod FirstHeld
pub mod FirstOfEach
pub mod FirstRows
pub mod Firsts
pub mod FoundInOrder
pub mod Given
pub mod KeptOnce
pub mod KeyMaps
mod Least
pub mod Orderly
pub mod OrderlyViews
pub mod Pairs
pub mod RowMaps
pub mod RowsOfPods
pub mod SamePolicies
pub mod SameProfile
pub mod SameRequest
pub mod SameResponse
pub mod SameRow
pub mod Selected
pub mod ServersOfPorts
pub mod ShownRows
mod Slices
pub mod Strings
mod Tests
