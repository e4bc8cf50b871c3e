-- How the lines of the output grow.
use Rattle.std.proofs.Common.{◌≡◌, ℕ, ◌+◌, Bool, false, List, [], ◌∷◌, ◌++◌, refl, sym, ap, subst, ◌∙◌, arith, append_assoc, append-nil}
use Rattle.std.specs.Prelude.{count_by, if◌then◌else◌}
use Rattle.std.proofs.lemmas.List.Sums.{sum_by_push}
use Rattle.std.proofs.lemmas.Grind.{flat_map-append}
use Rattle.line_run.specs.Joined.{Unbroken, ended_lines}
use Rattle.line_run.specs.Rows.{NoBreak, lines_of, onto_first}
use Rattle.line_run.proofs.Cut.{NoBreak-append, lines_of-break}
use Rattle.run_report.specs.Counts.{counted}
use Rattle.run_report.specs.Written.{AreWritten, IsAt, has_frame, says_not_json, says_refused}
use Rattle.run_report.specs.declared.output.OutputCounts.{OutputCounts}
use Rattle.run_report.specs.declared.output.Place.TheVariants as places

-- one more where there is one
abbrev with_one : Bool → ℕ → ℕ
with_one is_one n = n + (if is_one then 1 else 0)

open_line : (b : ℕ) (line : List ℕ) → NoBreak (b ∷ line) → lines_of (b ∷ line) ≡ (b ∷ line) ∷ []
open_line b [] none = rw none.0 refl
open_line b (d ∷ line) none = rw none.0 (ap (onto_first b) (open_line d line none.1))

lines_of-joined : (lines : List (List ℕ)) (last : List ℕ) → Unbroken lines → lines_of (ended_lines lines ++ last) ≡ lines ++ lines_of last
lines_of-joined [] last all = refl
lines_of-joined (line ∷ lines) last all =
    ap lines_of (append_assoc (line ++ 10 ∷ []) (ended_lines lines) last ∙ append_assoc line (10 ∷ []) (ended_lines lines ++ last))
    ∙ lines_of-break line (ended_lines lines ++ last) all.0
    ∙ ap (λ (more : List (List ℕ)). line ∷ more) (lines_of-joined lines last all.1)

plus_none : (n : ℕ) → n ≡ n + 0
plus_none n = omega arith

count-last : (says : List ℕ → Bool) (lines : List (List ℕ)) (last : List ℕ) → says [] ≡ false → NoBreak last → count_by says (lines ++ lines_of last) ≡ with_one (says last) (count_by says lines)
count-last says lines [] none unended = ap (count_by says) (append-nil lines) ∙ plus_none (count_by says lines) ∙ ap (λ (t : Bool). with_one t (count_by says lines)) (sym none)
count-last says lines (b ∷ last) none unended = ap (λ (more : List (List ℕ)). count_by says (lines ++ more)) (open_line b last unended) ∙ sum_by_push (λ x. if says x then 1 else 0) lines (b ∷ last)

-- the count of all lines, from that of those with LF
counts_all : (says : List ℕ → Bool) (lines : List (List ℕ)) (last written : List ℕ) → says [] ≡ false → Unbroken lines → NoBreak last → written ≡ ended_lines lines ++ last
    → with_one (says last) (count_by says lines) ≡ count_by says (lines_of written)
counts_all says lines last written none unbroken unended joined =
    sym (ap (λ (xs : List ℕ). count_by says (lines_of xs)) joined ∙ ap (count_by says) (lines_of-joined lines last unbroken) ∙ count-last says lines last none unended)

pub counts_refused : (counts : OutputCounts) (written : List ℕ) (is_refused : Bool) (result : ℕ) → AreWritten counts written → ((line : List ℕ) → IsAt counts.place line → is_refused ≡ says_refused line)
    → ((n : ℕ) → counts.ended_refused ≡ counted n → result ≡ counted (n + (if is_refused then 1 else 0))) → result ≡ counted (count_by says_refused (lines_of written))
counts_refused counts written is_refused result are says gives =
    gives (count_by says_refused are.lines) are.refused
    ∙ ap (λ (t : Bool). counted (with_one t (count_by says_refused are.lines))) (says are.last are.place)
    ∙ ap counted (counts_all says_refused are.lines are.last written refl are.unbroken are.unended are.joined)

pub counts_frames : (counts : OutputCounts) (written : List ℕ) (is_frame : Bool) (result : ℕ) → AreWritten counts written → ((line : List ℕ) → IsAt counts.place line → is_frame ≡ has_frame line)
    → ((n : ℕ) → counts.ended_frames ≡ counted n → result ≡ counted (n + (if is_frame then 1 else 0))) → result ≡ counted (count_by has_frame (lines_of written))
counts_frames counts written is_frame result are says gives =
    gives (count_by has_frame are.lines) are.frames
    ∙ ap (λ (t : Bool). counted (with_one t (count_by has_frame are.lines))) (says are.last are.place)
    ∙ ap counted (counts_all has_frame are.lines are.last written refl are.unbroken are.unended are.joined)

pub none_written : (counts : OutputCounts) → counts.place ≡ places.Start → counts.ended_refused ≡ 0 → counts.ended_frames ≡ 0 → counts.not_json ≡ 0 → AreWritten counts []
none_written counts start refused frames not_json = record {
  lines = [];
  last = [];
  unbroken = tt;
  unended = tt;
  joined = refl;
  refused = refused;
  not_json = not_json;
  frames = frames;
  place = subst (λ p. IsAt p []) (sym start) refl;
}

-- bytes of the last line
pub part_written : (old new : OutputCounts) (part written : List ℕ) → NoBreak part → new.ended_refused ≡ old.ended_refused → new.ended_frames ≡ old.ended_frames → new.not_json ≡ old.not_json
    → ((line : List ℕ) → IsAt old.place line → IsAt new.place (line ++ part)) → AreWritten old written → AreWritten new (written ++ part)
part_written old new part written none refused frames not_json place are = record {
  lines = are.lines;
  last = are.last ++ part;
  unbroken = are.unbroken;
  unended = NoBreak-append are.last part are.unended none;
  joined = ap (λ (xs : List ℕ). xs ++ part) are.joined ∙ append_assoc (ended_lines are.lines) are.last part;
  refused = refused ∙ are.refused;
  not_json = not_json ∙ are.not_json;
  frames = frames ∙ are.frames;
  place = place are.last are.place;
}

Unbroken-add : (lines : List (List ℕ)) (line : List ℕ) → Unbroken lines → NoBreak line → Unbroken (lines ++ line ∷ [])
Unbroken-add [] line all none = (none, tt)
Unbroken-add (l ∷ lines) line all none = (all.0, Unbroken-add lines line all.1 none)

-- the count of lines with LF, one more
one_ended : (says : List ℕ → Bool) (lines : List (List ℕ)) (last : List ℕ) (count new : ℕ) (is_one : Bool) → count ≡ counted (count_by says lines) → is_one ≡ says last
    → ((n : ℕ) → count ≡ counted n → new ≡ counted (n + (if is_one then 1 else 0))) → new ≡ counted (count_by says (lines ++ last ∷ []))
one_ended says lines last count new is_one is one gives =
    gives (count_by says lines) is ∙ ap (λ (t : Bool). counted (with_one t (count_by says lines))) one ∙ ap counted (sym (sum_by_push (λ x. if says x then 1 else 0) lines last))

-- the LF of the last line
pub line_written : (old new : OutputCounts) (written : List ℕ) (is_refused is_frame is_not_json : Bool) → new.place ≡ places.Start
    → ((line : List ℕ) → IsAt old.place line → is_refused ≡ says_refused line) → ((n : ℕ) → old.ended_refused ≡ counted n → new.ended_refused ≡ counted (n + (if is_refused then 1 else 0)))
    → ((line : List ℕ) → IsAt old.place line → is_frame ≡ has_frame line) → ((n : ℕ) → old.ended_frames ≡ counted n → new.ended_frames ≡ counted (n + (if is_frame then 1 else 0)))
    → ((line : List ℕ) → IsAt old.place line → is_not_json ≡ says_not_json line) → ((n : ℕ) → old.not_json ≡ counted n → new.not_json ≡ counted (n + (if is_not_json then 1 else 0)))
    → AreWritten old written → AreWritten new (written ++ 10 ∷ [])
line_written old new written is_refused is_frame is_not_json start refused refused_more frame frame_more not_json not_json_more are = record {
  lines = are.lines ++ are.last ∷ [];
  last = [];
  unbroken = Unbroken-add are.lines are.last are.unbroken are.unended;
  unended = tt;
  joined =
      ap (λ (xs : List ℕ). xs ++ 10 ∷ []) are.joined ∙ append_assoc (ended_lines are.lines) are.last (10 ∷ [])
      ∙ sym (append-nil (ended_lines (are.lines ++ are.last ∷ [])) ∙ flat_map-append (λ line. line ++ 10 ∷ []) are.lines (are.last ∷ []) ∙ ap (λ (xs : List ℕ). ended_lines are.lines ++ xs) (append-nil (are.last ++ 10 ∷ [])));
  refused = one_ended says_refused are.lines are.last old.ended_refused new.ended_refused is_refused are.refused (refused are.last are.place) refused_more;
  not_json = one_ended says_not_json are.lines are.last old.not_json new.not_json is_not_json are.not_json (not_json are.last are.place) not_json_more;
  frames = one_ended has_frame are.lines are.last old.ended_frames new.ended_frames is_frame are.frames (frame are.last are.place) frame_more;
  place = subst (λ p. IsAt p []) (sym start) refl;
}
