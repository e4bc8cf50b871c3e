-- One link of a list gives way to another of the same number.
use Rattle.std.proofs.Common.{◌≡◌, ℕ, ◌≤◌, ◌<◌, Bool, true, false, eqb, cond, List, [], ◌∷◌, ◌++◌, refl, sym, ap, ◌∙◌, subst, arith, eqb-true}
use Rattle.std.specs.BTreeMap.{is_at}
use Rattle.std.specs.Ordering.{nat_cmp}
use Rattle.mesh_links.specs.Calls.{is_open_in}
use Rattle.mesh_links.specs.declared.call.LinkCall.{LinkCall}
use Rattle.link_sessions.specs.Entries.{Entries, with_link, without}
use Rattle.link_sessions.specs.declared.link.Link.{Link}
use Rattle.serve_rules.specs.LinkOrder.{AreBetween}
use Rattle.serve_rules.specs.LinkStates.{LinkState}
use Rattle.serve_core.specs.Served.{AreShown}
use Rattle.serve_core.proofs.KeptLinks.{below_here}
use Rattle.serve_core.proofs.OpenTraces.{AreOthers}

-- a link that is taken out, whatever it was
pub without_with : (n : ℕ) (entries : Entries) (w : Link) → without n (with_link n entries w) ≡ without n entries
without_with n [] w = refl
without_with n (e ∷ es) w = by_test (without_with n es w) (is_at (nat_cmp n) e.0) refl
  where
    by_test : without n (with_link n es w) ≡ without n es → (b : Bool) → is_at (nat_cmp n) e.0 ≡ b → without n (cond b ((e.0, w) ∷ es) (e ∷ with_link n es w)) ≡ cond b es (e ∷ without n es)
    by_test rest true is = ap (λ b. cond b es ((e.0, w) ∷ without n es)) is
    by_test rest false is = ap (λ b. cond b (with_link n es w) (e ∷ without n (with_link n es w))) is ∙ ap (λ xs. e ∷ xs) rest

pub between_replaced : (s t : LinkState) → t.number ≡ s.number → (low : ℕ) (done links : List LinkState) (high : ℕ) → AreBetween low (done ++ s ∷ links) high → AreBetween low (done ++ t ∷ links) high
between_replaced s t same low [] links high between = (subst (λ n. low < n) (sym same) between.0, subst (λ n. AreBetween n links high) (sym same) between.1)
between_replaced s t same low (d ∷ done) links high between = (between.0, between_replaced s t same d.number done links high between.1)

pub shown_replaced : (trace : List LinkCall) (s t : LinkState) → (t.is_open ≡ true → s.is_open ≡ true) → t.number ≡ s.number → (done links : List LinkState) → AreShown trace (done ++ s ∷ links) → AreShown trace (done ++ t ∷ links)
shown_replaced trace s t opens same [] links shown = (λ is_open. ap (is_open_in trace) same ∙ shown.0 (opens is_open), shown.1)
shown_replaced trace s t opens same (d ∷ done) links shown = (shown.0, shown_replaced trace s t opens same done links shown.1)

differ : (a b : ℕ) → a < b → eqb b a ≡ false
differ a b less = by_test (eqb b a) refl
  where
    by_test : (c : Bool) → eqb b a ≡ c → eqb b a ≡ false
    by_test true e = absurd (let same : b ≡ a = eqb-true b a e in omega arith)
    by_test false e = e

differ_too : (a b : ℕ) → a < b → eqb a b ≡ false
differ_too a b less = by_test (eqb a b) refl
  where
    by_test : (c : Bool) → eqb a b ≡ c → eqb a b ≡ false
    by_test true e = absurd (let same : a ≡ b = eqb-true a b e in omega arith)
    by_test false e = e

-- all that follow have other numbers
above_others : (n : ℕ) (links : List LinkState) (low high : ℕ) → n ≤ low → AreBetween low links high → AreOthers n links
above_others n [] low high up between = tt
above_others n (s ∷ links) low high up between =
    let more : low < s.number = between.0 in
    let less : n < s.number = omega arith in
    (λ is_open. differ_too n s.number less, above_others n links s.number high (omega arith) between.1)

pub others_apart : (t : LinkState) (n : ℕ) → t.number ≡ n → t.is_open ≡ false → (low : ℕ) (done links : List LinkState) (high : ℕ) → AreBetween low (done ++ t ∷ links) high → AreOthers n (done ++ t ∷ links)
others_apart t n same closed low [] links high between =
    let first : t.number ≤ t.number = omega arith in
    ((λ is_open. let not_so : true ≡ false = sym is_open ∙ closed in absurd cc), above_others n links t.number high (subst (λ m. m ≤ t.number) same first) between.1)
others_apart t n same closed low (d ∷ done) links high between =
    let less : d.number < n = subst (λ m. d.number < m) same (below_here d.number done t links high between.1) in
    (λ is_open. differ d.number n less, others_apart t n same closed d.number done links high between.1)
