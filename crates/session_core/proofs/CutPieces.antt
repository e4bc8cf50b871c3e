-- Over any cutting of a link's bytes the same is asked.
use Rattle.std.proofs.Common.{◌≡◌, ℕ, ◌+◌, Bool, true, false, List, [], ◌∷◌, ◌++◌, drop, length, Result, Ok, Err, refl, sym, ap, subst, ◌∙◌, append_assoc}
use Rattle.std.proofs.lemmas.List.{append-nil}
use Rattle.std.proofs.Math.Seq.{drop-append_seam}
use Rattle.line_run.specs.Rows.{Row}
use Rattle.mesh_base.specs.declared.limits.Limits.{Limits}
use Rattle.view_types.specs.declared.config.Config.{Config}
use Rattle.session_core.specs.Laws.{CuttingIsFree}
use Rattle.session_core.specs.Lines.{rows_so_far}
use Rattle.session_core.specs.Pieces.{line_ask, line_asks, end_ask, asks_in, Given, given_first, given_next, asks_by, asks_so_far, asks_beyond, answers, then_asks, all_answers, given_from}
use Rattle.session_core.specs.Phases.{Phase, Opening, Feeding, Asking, Asked, phase_of}
use Rattle.session_core.specs.declared.session.Ask.{Ask}
use Rattle.session_core.specs.declared.session.Ask.TheVariants as asks
use Rattle.session_core.specs.declared.session.SessionFault.{SessionFault}
use Rattle.session_core.proofs.PhaseLaws.{fault_stays, feed_goes_on, nothing_follows}
use Rattle.session_core.proofs.Rows.{rows_stay}

-- What was asked comes first, and a fault stays.
abbrev pub IsOnward : Result (List Ask) SessionFault → Result (List Ask) SessionFault → Type 0
IsOnward (Ok before) (Ok now) = (more : List Ask) × (now ≡ before ++ more)
IsOnward (Ok before) (Err fault) = Unit {0}
IsOnward (Err fault) now = now ≡ Err fault

onward_same : (x : Result (List Ask) SessionFault) → IsOnward x x
onward_same (Ok before) = ([], sym (append-nil before))
onward_same (Err fault) = refl

onward_none : (now : Result (List Ask) SessionFault) → IsOnward (Ok []) now
onward_none (Ok now) = (now, refl)
onward_none (Err fault) = tt

line_asks-append : (before : ℕ) (rows more : List Row) → (later : List Ask) × (line_asks before (rows ++ more) ≡ line_asks before rows ++ later)
line_asks-append before [] more = (line_asks before more, refl)
line_asks-append before (row ∷ rows) more = let rest = line_asks-append (before + 1) rows more in (rest.0, ap (λ z. line_ask (before + 1) row ∷ z) rest.1)

-- a feed asks on
feed_onward : (limit : ℕ) (ended : Bool) (text more : List ℕ) → IsOnward (Ok (asks_in limit false (Feeding text))) (Ok (asks_in limit ended (Feeding (text ++ more))))
feed_onward limit ended text more =
    let rows = rows_stay limit ended text more in
    let lines = line_asks-append 0 (rows_so_far limit false text) rows.0 in
    let first = line_asks 0 (rows_so_far limit false text) in
    let later = lines.0 ++ end_ask ended in
    let e : line_asks 0 (rows_so_far limit ended (text ++ more)) ++ end_ask ended ≡ (first ++ []) ++ later =
    ap (λ z. line_asks 0 z ++ end_ask ended) rows.1 ∙ ap (λ z. z ++ end_ask ended) lines.1 ∙ append_assoc first lines.0 (end_ask ended) ∙ ap (λ z. z ++ later) (sym (append-nil first)) in
    (later, ap (λ z. asks.FeedBegins ∷ z) e)

-- one more byte or more
bytes_onward : (config : Config) (limits : Limits) (bytes : List ℕ) (byte : ℕ) (piece : List ℕ) (phase : Result Phase SessionFault) → phase_of config limits bytes ≡ phase → IsOnward (asks_by limits.line false phase) (asks_by limits.line false (phase_of config limits (bytes ++ byte ∷ piece)))
bytes_onward config limits bytes byte piece (Ok Opening) is = onward_none (asks_by limits.line false (phase_of config limits (bytes ++ byte ∷ piece)))
bytes_onward config limits bytes byte piece (Ok (Feeding text)) is = rw (feed_goes_on config limits bytes (byte ∷ piece) text is) (feed_onward limits.line false text (byte ∷ piece))
bytes_onward config limits bytes byte piece (Ok Asking) is = onward_none (asks_by limits.line false (phase_of config limits (bytes ++ byte ∷ piece)))
bytes_onward config limits bytes byte piece (Ok (Asked query)) is = rw (nothing_follows config limits bytes byte piece query is) tt
bytes_onward config limits bytes byte piece (Err fault) is = rw (fault_stays config limits bytes (byte ∷ piece) fault is) refl

-- the end
end_onward : (limit : ℕ) (phase : Result Phase SessionFault) → IsOnward (asks_by limit false phase) (asks_by limit true phase)
end_onward limit (Ok Opening) = onward_none (Ok (asks_in limit true Opening))
end_onward limit (Ok (Feeding text)) =
    let same : text ++ [] ≡ text = append-nil text in
    subst (λ z. IsOnward (Ok (asks_in limit false (Feeding text))) (Ok (asks_in limit true (Feeding z)))) same (feed_onward limit true text [])
end_onward limit (Ok Asking) = onward_none (Ok (asks_in limit true Asking))
end_onward limit (Ok (Asked query)) = (asks.Ended ∷ [], refl)
end_onward limit (Err fault) = refl

pub piece_onward : (config : Config) (limits : Limits) (bytes : List ℕ) (ended : Bool) (piece : List ℕ) → let given : Given = record { bytes = bytes; ended = ended } in IsOnward (asks_so_far config limits given) (asks_so_far config limits (given_next given piece))
piece_onward config limits bytes true [] = onward_same (asks_by limits.line true (phase_of config limits bytes))
piece_onward config limits bytes true (byte ∷ piece) = onward_same (asks_by limits.line true (phase_of config limits bytes))
piece_onward config limits bytes false [] = end_onward limits.line (phase_of config limits bytes)
piece_onward config limits bytes false (byte ∷ piece) = bytes_onward config limits bytes byte piece (phase_of config limits bytes) refl

-- what is asked together
onto_rest : (x y all : Result (List Ask) SessionFault) → IsOnward x y → then_asks x (then_asks (asks_beyond x y) all) ≡ then_asks y all
onto_rest (Ok before) (Ok now) (Ok rest) h =
    let added : drop (length before) now ≡ h.0 = ap (drop (length before)) h.1 ∙ drop-append_seam before h.0 in
    ap (λ z. Ok (before ++ (z ++ rest))) added ∙ ap Ok (sym (append_assoc before h.0 rest)) ∙ ap (λ z. Ok (z ++ rest)) (sym h.1)
onto_rest (Ok before) (Ok now) (Err fault) h = refl
onto_rest (Ok before) (Err fault) all h = refl
onto_rest (Err fault) y all h = rw h refl

onto_none : (x : Result (List Ask) SessionFault) → then_asks x (Ok []) ≡ x
onto_none (Ok before) = ap Ok (append-nil before)
onto_none (Err fault) = refl

none_onto : (x : Result (List Ask) SessionFault) → then_asks (Ok []) x ≡ x
none_onto (Ok before) = refl
none_onto (Err fault) = refl

all_from : (config : Config) (limits : Limits) (given : Given) (pieces : List (List ℕ)) → then_asks (asks_so_far config limits given) (all_answers (answers config limits given pieces)) ≡ asks_so_far config limits (given_from given pieces)
all_from config limits given [] = onto_none (asks_so_far config limits given)
all_from config limits given (piece ∷ pieces) =
    let next = given_next given piece in
    onto_rest (asks_so_far config limits given) (asks_so_far config limits next) (all_answers (answers config limits next pieces)) (piece_onward config limits given.bytes given.ended piece) ∙ all_from config limits next pieces

nothing_yet : (config : Config) (limits : Limits) → asks_so_far config limits given_first ≡ Ok []
unfolding phase_of
nothing_yet config limits = refl

pub cutting_is_free : CuttingIsFree
cutting_is_free config limits pieces =
    sym (none_onto (all_answers (answers config limits given_first pieces))) ∙ ap (λ z. then_asks z (all_answers (answers config limits given_first pieces))) (sym (nothing_yet config limits)) ∙ all_from config limits given_first pieces
