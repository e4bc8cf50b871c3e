mod KeepLawful
mod Leading
mod Untouched
