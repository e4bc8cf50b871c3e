pub mod ProfileKeys
