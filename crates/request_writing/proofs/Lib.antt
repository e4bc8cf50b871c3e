mod QueryRound
mod RequestRound
mod TargetTexts
mod TextBytes
