pub mod AuthzKeys
