-- Where a fold stands after one more row.
use Rattle.std.proofs.Common.{◌≡◌, ◌≢◌, ℕ, ◌+◌, Bool, true, false, ◌||◌, List, [], ◌∷◌, ◌++◌, length, reverse, Option, Some, None, Ok, Err, refl, sym, ap, ◌∙◌, subst, arith, append-nil}
use Rattle.std.specs.Prelude.{Result, OnOk, OnErr}
use Rattle.std.specs.List.{cons_option, enumerate_from, filter_map, list_any}
use Rattle.std.proofs.lemmas.Grind.{reverse_onto}
use Rattle.std.proofs.lemmas.List.{length-reverse}
use Rattle.std.proofs.lemmas.List.Elements.{filter_map-append}
use Rattle.mesh_base.specs.declared.limits.Limits.{Limits}
use Rattle.mesh_base.specs.declared.memory.Memory.{Memory}
use Rattle.mesh_base.specs.declared.sub_id.SubId.{SubId}
use Rattle.line_run.specs.Rows.{Row}
use Rattle.feed_history.specs.Text.{fault_line}
use Rattle.view_fold.specs.declared.folding.Fold.{Fold}
use Rattle.view_fold.proofs.Orderly.{one_more}
use Rattle.view_rules.specs.Fold.{IsOrderlyIfShown, fold, folded_onto, shown_after}
use Rattle.view_types.specs.declared.message.Message.{Message}
use Rattle.view_types.specs.declared.query.Method.{Method}
use Rattle.view_types.specs.declared.view.View.{View}
use Rattle.output_fold.specs.FaultText.{fold_fault_text}
use Rattle.output_fold.specs.Folded.{bad_line, bad_rows, fault_at, fault_told, message_told, messages_in, refused_in}
use Rattle.output_fold.specs.Lines.{Told, row_says}
use Rattle.output_fold.specs.Given.{Fails}
use Rattle.output_fold.specs.Stand.{IsOfFold, ShowsIf, Stands}
use Rattle.output_fold.specs.declared.fault.FoldFault.{FoldFault}
use Rattle.output_fold.specs.declared.fault.FoldFault.TheVariants as faults

-- ---- lists

-- the newest row is the last
pub row_last : (row : Row) (past : List Row) → reverse (row ∷ past) ≡ reverse past ++ row ∷ []
row_last row past = reverse_onto past row []

pub numbered : {A : Type 0} (n : ℕ) (xs ys : List A) → enumerate_from n (xs ++ ys) ≡ enumerate_from n xs ++ enumerate_from (n + length xs) ys
numbered n [] ys = ap (λ (k : ℕ). enumerate_from k ys) (omega arith)
numbered n (x ∷ xs) ys =
    let more = numbered (n + 1) xs ys in
    let same : n + 1 + length xs ≡ n + length (x ∷ xs) = omega arith in
    ap (λ rest. (n, x) ∷ rest) (more ∙ ap (λ (k : ℕ). enumerate_from (n + 1) xs ++ enumerate_from k ys) same)

pub folded_more : (shown : Option View) (messages : List Message) (m : Message) → folded_onto shown (messages ++ m ∷ []) ≡ Some (shown_after (folded_onto shown messages) m)
folded_more shown [] m = refl
folded_more shown (first ∷ messages) m = folded_more (Some (shown_after shown first)) messages m

-- the list isn't empty
abbrev are_some : {A : Type 0} → List A → Bool
are_some xs = list_any (λ x. true) xs

none_of : {A : Type 0} (xs : List A) → are_some xs ≡ false → xs ≡ []
none_of [] e = refl
none_of (x ∷ xs) e = absurd cc

still_some : {A : Type 0} (xs ys : List A) → are_some xs ≡ true → are_some (xs ++ ys) ≡ true
still_some [] ys e = absurd cc
still_some (x ∷ xs) ys e = refl

still_first : (bads more : List (ℕ × FoldFault)) → are_some bads ≡ true → bad_line (bads ++ more) ≡ bad_line bads
still_first [] more e = absurd cc
still_first (bad ∷ bads) more e = refl

-- a fault other than out of memory is the definition's
pub fault_is : {A : Type 0} (fault : FoldFault) (read : Result A FoldFault) → fault ≢ faults.Memory → Fails fault read → read ≡ Err fault
fault_is faults.Memory read other fails = absurd (other refl)
fault_is fault read other fails = fails

-- what a row tells the same fold
pub says_too : {method method_now : Method} {id id_now : SubId} {limits limits_now : Limits} {told : Told} → IsOfFold method id limits method_now id_now limits_now → (row : Row) → row_says method_now id_now.0 row ≡ told → row_says method id.0 row ≡ told
says_too {method = method} {id_now = id_now} {told = told} same row says = subst (λ (i : SubId). row_says method i.0 row ≡ told) same.same_id (subst (λ (m : Method). row_says m id_now.0 row ≡ told) same.same_method says)

-- a message that was taken, or wasn't, leaves a view in order
pub taken_is : (result : Result (Unit {0}) Memory) (old new : Fold) (m : Message) → OnOk result (new.view ≡ Some (shown_after old.view m)) → OnErr result (new ≡ old) → IsOrderlyIfShown old.view → IsOrderlyIfShown new.view
taken_is (Ok done) old new m ok err is = subst IsOrderlyIfShown (sym ok) (one_more old.view m is)
taken_is (Err e) old new m ok err is = subst (λ (fold : Fold). IsOrderlyIfShown fold.view) (sym err) is

-- ---- rows

module _ (method : Method) (id : ℕ) where
  -- the rows that don't read among some and others behind them
  pub bad_among : (rows more : List Row) → bad_rows method id (rows ++ more) ≡ bad_rows method id rows ++ filter_map (fault_at method id) (enumerate_from (1 + length rows) more)
  bad_among rows more = ap (filter_map (fault_at method id)) (numbered 1 rows more) ∙ filter_map-append (fault_at method id) (enumerate_from 1 rows) (enumerate_from (1 + length rows) more)

  module _ (row : Row) (past : List Row) where
    bad_next : bad_rows method id (reverse (row ∷ past)) ≡ bad_rows method id (reverse past) ++ cons_option (fault_told (length past + 1) (row_says method id row)) []
    bad_next =
        let place : 1 + length (reverse past) ≡ length past + 1 = simp length-reverse (omega arith) in
        ap (bad_rows method id) (row_last row past) ∙ bad_among (reverse past) (row ∷ [])
        ∙ ap (λ (n : ℕ). bad_rows method id (reverse past) ++ cons_option (fault_told n (row_says method id row)) []) place

    messages_next : messages_in method id (reverse (row ∷ past)) ≡ messages_in method id (reverse past) ++ cons_option (message_told (row_says method id row)) []
    messages_next = ap (messages_in method id) (row_last row past) ∙ filter_map-append (λ (r : Row). message_told (row_says method id r)) (reverse past) (row ∷ [])

    -- after a row that doesn't read all others are passed over
    pub skipped : (failed : Bool) (view : Option View) (text : List ℕ) (refused : Bool) → failed ≡ true → Stands method id failed view past text refused → Stands method id failed view (row ∷ past) text (refused || false)
    skipped failed view text refused has_failed stood =
        let bads = bad_rows method id (reverse past) in
        let some : are_some bads ≡ true = sym stood.fails ∙ has_failed in
        let still : refused_in method id (reverse (row ∷ past)) ≡ true = ap are_some bad_next ∙ still_some bads _ some in record {
          fails = has_failed ∙ sym still;
          shows = subst (λ (b : Bool). ShowsIf b (fold (messages_in method id (reverse (row ∷ past)))) view) (sym has_failed) tt;
          writes = stood.writes ∙ sym (still_first bads _ some) ∙ ap bad_line (sym bad_next);
          refuses = ap (λ (b : Bool). b || false) (stood.refuses ∙ some) ∙ sym still;
        }

    -- what is seen after what a row tells
    abbrev pub seen_after : Option View → Option Message → Option View
    seen_after shown None = shown
    seen_after shown (Some m) = Some (shown_after shown m)

    folds_on : (messages : List Message) (told : Option Message) → fold (messages ++ cons_option told []) ≡ seen_after (fold messages) told
    folds_on messages None = ap fold (append-nil messages)
    folds_on messages (Some m) = folded_more None messages m

    -- a row that reads
    pub reads : (failed : Bool) (view view_new : Option View) (text : List ℕ) (refused : Bool) (told : Option Message) → failed ≡ false → row_says method id row ≡ Ok told → view_new ≡ seen_after view told
        → Stands method id failed view past text refused → Stands method id failed view_new (row ∷ past) text (refused || false)
    reads failed view view_new text refused told so_far says shows stood =
        let bads = bad_rows method id (reverse past) in
        let none : bads ≡ [] = none_of bads (sym stood.fails ∙ so_far) in
        let bads_new : bad_rows method id (reverse (row ∷ past)) ≡ [] = bad_next ∙ ap (λ (t : Told). bads ++ cons_option (fault_told (length past + 1) t) []) says ∙ append-nil bads ∙ none in
        let shown : view ≡ fold (messages_in method id (reverse past)) = subst (λ (b : Bool). ShowsIf b (fold (messages_in method id (reverse past))) view) so_far stood.shows in
        let shown_new : view_new ≡ fold (messages_in method id (reverse (row ∷ past))) = shows ∙ ap (λ (v : Option View). seen_after v told) shown ∙ sym (folds_on (messages_in method id (reverse past)) told)
        ∙ ap (λ (t : Told). fold (messages_in method id (reverse past) ++ cons_option (message_told t) [])) (sym says) ∙ ap fold (sym messages_next) in record {
          fails = so_far ∙ ap are_some (sym bads_new);
          shows = subst (λ (b : Bool). ShowsIf b (fold (messages_in method id (reverse (row ∷ past)))) view_new) (sym so_far) shown_new;
          writes = stood.writes ∙ ap bad_line (none ∙ sym bads_new);
          refuses = ap (λ (b : Bool). b || false) (stood.refuses ∙ ap are_some none) ∙ ap are_some (sym bads_new);
        }

    -- the first row that doesn't read
    pub fails : (failed : Bool) (view : Option View) (text text_new : List ℕ) (refused : Bool) (fault : FoldFault) → failed ≡ false → row_says method id row ≡ Err fault
        → text_new ≡ text ++ fault_line (length past + 1) (fold_fault_text fault) → Stands method id failed view past text refused → Stands method id true view (row ∷ past) text_new (refused || true)
    fails failed view text text_new refused fault so_far says adds stood =
        let number = length past + 1 in
        let bads = bad_rows method id (reverse past) in
        let none : bads ≡ [] = none_of bads (sym stood.fails ∙ so_far) in
        let bads_new : bad_rows method id (reverse (row ∷ past)) ≡ (number, fault) ∷ [] = bad_next ∙ ap (λ (t : Told). bads ++ cons_option (fault_told number t) []) says ∙ ap (λ xs. xs ++ (number, fault) ∷ []) none in record {
          fails = ap are_some (sym bads_new);
          shows = tt;
          writes = adds ∙ ap (λ (xs : List ℕ). xs ++ fault_line number (fold_fault_text fault)) (stood.writes ∙ ap bad_line none) ∙ ap bad_line (sym bads_new);
          refuses = ap (λ (b : Bool). b || true) (stood.refuses ∙ ap are_some none) ∙ ap are_some (sym bads_new);
        }
