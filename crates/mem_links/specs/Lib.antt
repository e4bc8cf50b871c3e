pub mod Counted
pub mod OpenNumbers
pub mod Told
