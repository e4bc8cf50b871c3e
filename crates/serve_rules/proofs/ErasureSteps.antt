-- Leaving out one link, step by step.
use Rattle.std.proofs.Common.{◌≡◌, ℕ, ◌≤◌, ◌==◌, Bool, true, false, not, List, [], ◌∷◌, ◌++◌, nat_lt, refl, ap, subst, ◌∙◌, arith}
use Rattle.std.specs.Prelude.{◌&&◌}
use Rattle.std.specs.List.{filter, sum_by}
use Rattle.std.proofs.lemmas.List.{append-nil}
use Rattle.std.proofs.lemmas.List.Elements.{filter-append}
use Rattle.std.proofs.lemmas.Grind.{flat_map-append}
use Rattle.std.proofs.lemmas.List.Filters.{sum_by-filter_both}
use Rattle.std.proofs.lemmas.Bool.{and_parts}
use Rattle.std.proofs.lemmas.Bool.Decides.{nat_tests}
use Rattle.mesh_links.specs.declared.call.LinkCall.{LinkCall}
use Rattle.mesh_links.specs.declared.call.ReadGot.{ReadGot}
use Rattle.mesh_links.specs.declared.call.ReadGot.TheVariants as reads
use Rattle.serve_rules.specs.FedLines.{FedRow}
use Rattle.serve_rules.specs.Batches.{Serving}
use Rattle.serve_rules.specs.LinkStates.{LinkState, is_feed, within, admits}
use Rattle.serve_rules.specs.Turns.{Step, Each}
use Rattle.serve_rules.specs.LinkErasure.{without, call_without, calls_without, NoFeed}

-- ---- counts

pub fewer : (f : LinkState → ℕ) (q : LinkState → Bool) (xs : List LinkState) → sum_by f (filter q xs) ≤ sum_by f xs
fewer f q xs = let both = sum_by-filter_both q (λ x. not (q x)) (λ x. refl) f xs in omega arith

pub less : (a b l : ℕ) → a ≤ b → nat_lt b l ≡ true → nat_lt a l ≡ true
less a b l h e = grind (arith, nat_tests)

within_fewer : (limit a b : ℕ) (was now : Bool) → a ≤ b → within limit b was now ≡ true → within limit a was now ≡ true
within_fewer limit a b true now h e = refl
within_fewer limit a b false false h e = refl
within_fewer limit a b false true h e = less a b limit h e

both_true : (x y : Bool) → x ≡ true → y ≡ true → (x && y) ≡ true
both_true x y ex ey = rw (ex, ey) refl

pub admits_fewer : (serving : Serving) (k : ℕ) (others : List LinkState) (old : List ℕ) (got : ReadGot) → admits serving others old got ≡ true → admits serving (without k others) old got ≡ true
admits_fewer serving k others old (reads.Bytes piece) h =
    let parts = and_parts _ _ h in
    both_true _ _ (within_fewer _ _ _ _ _ (fewer _ _ others) parts.0) (within_fewer _ _ _ _ _ (fewer _ _ others) parts.1)
admits_fewer serving k others old reads.Pending h = refl
admits_fewer serving k others old reads.Failed h = refl

-- ---- lists

pub without-in : (k : ℕ) (s : LinkState) (ss : List LinkState) → (s.number == k) ≡ true → without k (s ∷ ss) ≡ without k ss
without-in k s ss e = rw e refl

pub without-out : (k : ℕ) (s : LinkState) (ss : List LinkState) → (s.number == k) ≡ false → without k (s ∷ ss) ≡ s ∷ without k ss
without-out k s ss e = rw e refl

pub without-append : (k : ℕ) (xs ys : List LinkState) → without k (xs ++ ys) ≡ without k xs ++ without k ys
without-append k xs ys = filter-append (λ s. not (s.number == k)) xs ys

pub calls-append : (k : ℕ) (xs ys : List LinkCall) → calls_without k (xs ++ ys) ≡ calls_without k xs ++ calls_without k ys
calls-append k xs ys = flat_map-append (call_without k) xs ys

-- ---- what holds of each step

-- its calls are of its link, which keeps its number
pub record Own (s : LinkState) (made : List LinkCall) (t : LinkState) : Type 0 where
  pub number : t.number ≡ s.number
  pub dropped : (k : ℕ) → (s.number == k) ≡ true → calls_without k made ≡ []
  pub kept : (k : ℕ) → (s.number == k) ≡ false → calls_without k made ≡ made

-- it is a step where fewer links are beside it, and feeds nothing unless its link is a feed
pub record Fair (serving : Serving) (step : Step) : Type 0 where
  pub own : (others : List LinkState) (fed : List FedRow) (s : LinkState) (made : List LinkCall) (now : List FedRow) (t : LinkState) → step others fed s made now t → Own s made t
  pub fair : (k : ℕ) (others : List LinkState) (fed : List FedRow) (s : LinkState) (made : List LinkCall) (now : List FedRow) (t : LinkState) → step others fed s made now t → step (without k others) fed s made now t
  pub quiet : (others : List LinkState) (fed : List FedRow) (s : LinkState) (made : List LinkCall) (now : List FedRow) (t : LinkState) → step others fed s made now t → is_feed serving t.bytes ≡ false → now ≡ fed
  pub stays : (others : List LinkState) (fed : List FedRow) (s : LinkState) (made : List LinkCall) (now : List FedRow) (t : LinkState) → step others fed s made now t → is_feed serving t.bytes ≡ false → is_feed serving s.bytes ≡ false

-- no feed after a pass, so none before it
pub no_feed_before : (serving : Serving) (step : Step) → Fair serving step → (k : ℕ) (done : List LinkState) (fed : List FedRow) (ss : List LinkState) (made : List LinkCall) (now : List FedRow) (ts : List LinkState) → Each step done fed ss made now ts → NoFeed serving k ts → NoFeed serving k ss
no_feed_before serving step f k done fed [] made now ts h n = tt
no_feed_before serving step f k done fed (s ∷ ss) made now [] h n = absurd h
no_feed_before serving step f k done fed (s ∷ ss) made now (t ∷ ts) h n =
    let own = f.own (done ++ ss) fed s h.0 h.2 t h.4 in
    ((λ e. f.stays (done ++ ss) fed s h.0 h.2 t h.4 (n.0 (ap (λ m. m == k) own.number ∙ e))), no_feed_before serving step f k (done ++ t ∷ []) h.2 ss h.1 now ts h.5 n.1)

pub each_without : (serving : Serving) (step : Step) → Fair serving step → (k : ℕ) (done : List LinkState) (fed : List FedRow) (ss : List LinkState) (made : List LinkCall) (now : List FedRow) (ts : List LinkState) → Each step done fed ss made now ts → NoFeed serving k ts → Each step (without k done) fed (without k ss) (calls_without k made) now (without k ts)
each_without serving step f k done fed [] made now [] h n = (ap (calls_without k) h.0, h.1)
each_without serving step f k done fed [] made now (t ∷ ts) h n = absurd h
each_without serving step f k done fed (s ∷ ss) made now [] h n = absurd h
each_without serving step f k done fed (s ∷ ss) made now (t ∷ ts) h n =
    let own = f.own (done ++ ss) fed s h.0 h.2 t h.4 in
    let rest = each_without serving step f k (done ++ t ∷ []) h.2 ss h.1 now ts h.5 n.1 in
    let split : calls_without k made ≡ calls_without k h.0 ++ calls_without k h.1 = ap (calls_without k) h.3 ∙ calls-append k h.0 h.1 in
    let Goal : Type 0 = Each step (without k done) fed (without k (s ∷ ss)) (calls_without k made) now (without k (t ∷ ts)) in
    let leave : (s.number == k) ≡ true → Goal = λ e.
    let there = ap (λ m. m == k) own.number ∙ e in
    let same : h.2 ≡ fed = f.quiet (done ++ ss) fed s h.0 h.2 t h.4 (n.0 there) in
    let left : without k (done ++ t ∷ []) ≡ without k done = without-append k done (t ∷ []) ∙ ap (λ z. without k done ++ z) (without-in k t [] there) ∙ append-nil (without k done) in
    let calls_are : calls_without k made ≡ calls_without k h.1 = split ∙ ap (λ z. z ++ calls_without k h.1) (own.dropped k e) in
    let P : List LinkState → List FedRow → Type 0 = λ d g. Each step d g (without k ss) (calls_without k h.1) now (without k ts) in
    let moved : P (without k done) fed = subst (λ g. P (without k done) g) same (subst (λ d. P d h.2) left rest) in
    rw (without-in k s ss e, without-in k t ts there, calls_are) moved in
    let keep : (s.number == k) ≡ false → Goal = λ e.
    let there = ap (λ m. m == k) own.number ∙ e in
    let left : without k (done ++ t ∷ []) ≡ without k done ++ t ∷ [] = without-append k done (t ∷ []) ∙ ap (λ z. without k done ++ z) (without-out k t [] there) in
    let here : step (without k done ++ without k ss) fed s h.0 h.2 t = subst (λ o. step o fed s h.0 h.2 t) (without-append k done ss) (f.fair k (done ++ ss) fed s h.0 h.2 t h.4) in
    let calls_are : calls_without k made ≡ h.0 ++ calls_without k h.1 = split ∙ ap (λ z. z ++ calls_without k h.1) (own.kept k e) in
    let P : List LinkState → Type 0 = λ d. Each step d h.2 (without k ss) (calls_without k h.1) now (without k ts) in
    rw (without-out k s ss e, without-out k t ts there) (h.0, calls_without k h.1, h.2, calls_are, here, subst P left rest) in
    let P : Bool → Type 0 = λ b. (s.number == k) ≡ b → Goal in
    let at : (b : Bool) → P b = λ b. elim b as P [ true ↦ leave | false ↦ keep ] in
    at (s.number == k) refl
