-- What is kept of endpoints stands after a change, and what is told of their marks.
use Rattle.std.proofs.Common.{◌≡◌, ℕ, Bool, true, false, ◌&&◌, ◌||◌, not, List, [], ◌∷◌, ◌++◌, Option, length, refl, sym, ap, subst, ◌∙◌, arith}
use Rattle.std.proofs.lemmas.List.Folds.{list_any-append}
use Rattle.view_types.specs.Objects.{ObjectMap}
use Rattle.view_types.specs.declared.config.Config.{Config}
use Rattle.view_types.specs.declared.mark.Mark.{Mark}
use Rattle.mark_graph.specs.Moves.{has_after}
use Rattle.mark_graph.specs.declared.moves.MarkMoves.{MarkMoves}
use Rattle.mark_rules.specs.Marks.{has_mark, mark_cmp, same_mark}
use Rattle.mark_rules.specs.declared.keys.EndpointKey.{EndpointKey}
use Rattle.row_table.specs.IndexRows.{HaveSame}
use Rattle.slice_marks.proofs.Reading.{has_read}
use Rattle.slice_marks.specs.Marked.{KeysByMark, is_read, marks_read}
use Rattle.endpoint_index.specs.Slices.{SlicesStand}
use Rattle.endpoint_index.specs.declared.slices.KeptSlices.{KeptSlices}

pub slices_as : (config : Config) (held : ObjectMap) (key : EndpointKey) (s : KeptSlices) (exists exists' : Bool) (name name' : Option (List ℕ)) → exists ≡ exists' → name ≡ name'
    → SlicesStand config held key exists name s → SlicesStand config held key exists' name' s
slices_as config held key s exists exists' name name' there named well =
    subst (λ (b : Bool). SlicesStand config held key b name' s) there (subst (λ (n : Option (List ℕ)). SlicesStand config held key exists n s) named well)

pub none_in : (marks : List Mark) (m : Mark) → length marks ≡ 0 → has_mark marks m ≡ false
none_in [] m e = refl
none_in (x ∷ xs) m e = absurd (omega (arith, e))

module _ (own : List Mark) (old new : KeysByMark) where
  -- the own marks, and those that slices read
  in_both : (by : KeysByMark) (m : Mark) → has_mark (own ++ marks_read by) m ≡ (has_mark own m || is_read by m)
  in_both by m = list_any-append (same_mark m) own (marks_read by) ∙ ap (λ b. has_mark own m || b) (has_read by m)

  pub none_moved : ((m : Mark) → is_read new m ≡ is_read old m) → HaveSame (own ++ marks_read new) (own ++ marks_read old)
  none_moved same m = in_both new m ∙ ap (λ b. has_mark own m || b) (same m) ∙ sym (in_both old m)

  by_cases : (own come gone before : Bool) → (own || (come || (not gone && before))) ≡ ((come || own) || (not gone && (own || before)))
  by_cases true true gone before = refl
  by_cases true false gone before = refl
  by_cases false true gone before = refl
  by_cases false false gone before = refl

  -- the own marks are among those that come
  pub some_moved : (gone come all : List Mark) → all ≡ come ++ own → ((m : Mark) → is_read new m ≡ has_after mark_cmp (record { gone = gone; come = come }) (is_read old) m)
      → (m : Mark) → has_mark (own ++ marks_read new) m ≡ has_after mark_cmp (record { gone = gone; come = all }) (has_mark (own ++ marks_read old)) m
  some_moved gone come all is lead m =
      in_both new m ∙ ap (λ b. has_mark own m || b) (lead m)
      ∙ by_cases (has_mark own m) (has_mark come m) (has_mark gone m) (is_read old m)
      ∙ (λ i. sym (ap (λ ms. has_mark ms m) is ∙ list_any-append (same_mark m) come own) i || (not (has_mark gone m) && sym (in_both old m) i))

-- ---- a row at the own marks, and at those that slices read

module _ (own read : List Mark) (m : Mark) (here old mid new : Bool) where
  pub both_put : mid ≡ ((has_mark own m && here) || old) → new ≡ ((has_mark read m && here) || mid) → new ≡ ((has_mark (own ++ read) m && here) || old)
  both_put first second = second ∙ ap (λ b. (has_mark read m && here) || b) first ∙ cases_put (has_mark own m) (has_mark read m) here ∙ ap (λ b. (b && here) || old) (sym (list_any-append (same_mark m) own read))
    where
      cases_put : (o r e : Bool) → ((r && e) || ((o && e) || old)) ≡ (((o || r) && e) || old)
      cases_put true true true = refl
      cases_put true true false = refl
      cases_put true false true = refl
      cases_put true false false = refl
      cases_put false true true = refl
      cases_put false true false = refl
      cases_put false false e = refl

  pub both_taken : mid ≡ (not (has_mark own m && here) && old) → new ≡ (not (has_mark read m && here) && mid) → new ≡ (not (has_mark (own ++ read) m && here) && old)
  both_taken first second = second ∙ ap (λ b. not (has_mark read m && here) && b) first ∙ cases_taken (has_mark own m) (has_mark read m) here ∙ ap (λ b. not (b && here) && old) (sym (list_any-append (same_mark m) own read))
    where
      cases_taken : (o r e : Bool) → (not (r && e) && (not (o && e) && old)) ≡ (not ((o || r) && e) && old)
      cases_taken true true true = refl
      cases_taken true true false = refl
      cases_taken true false true = refl
      cases_taken true false false = refl
      cases_taken false true true = refl
      cases_taken false true false = refl
      cases_taken false false e = refl
