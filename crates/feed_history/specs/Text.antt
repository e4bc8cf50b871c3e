-- The lines of the output.
use Rattle.std.specs.Prelude.{ℕ, List, ◌++◌, codes}
use Rattle.std.specs.Fmt.{decimal}
use Rattle.hex.specs.Hex.{encode_lower}
use Rattle.feed_history.specs.declared.refusal.Refusal.{Refusal}
use Rattle.feed_history.specs.RefusalText.{refusal_text}

-- `refused <line> <fault>`, with the text of the fault
abbrev pub fault_line : ℕ → List ℕ → List ℕ
fault_line number fault = codes "refused " ++ (decimal number ++ (codes " " ++ (fault ++ codes "\n")))

abbrev pub refused_line : ℕ → Refusal → List ℕ
refused_line number refusal = fault_line number (refusal_text refusal)

-- `<word> <id> <hex>`
abbrev pub hex_line : List ℕ → ℕ → List ℕ → List ℕ
hex_line word id frame = word ++ (codes " " ++ (decimal id ++ (codes " " ++ (encode_lower frame ++ codes "\n"))))

-- the line of a frame that is sent
abbrev pub frame_line : ℕ → List ℕ → List ℕ
frame_line id frame = hex_line (codes "frame") id frame

-- the line of a frame of a whole view
abbrev pub view_line : ℕ → List ℕ → List ℕ
view_line id frame = hex_line (codes "view") id frame

-- `oversize <id> <bytes>`
abbrev pub oversize_line : ℕ → ℕ → List ℕ
oversize_line id bytes = codes "oversize " ++ (decimal id ++ (codes " " ++ (decimal bytes ++ codes "\n")))
