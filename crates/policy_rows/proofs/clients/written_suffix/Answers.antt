use Rattle.std.proofs.Common.{◌≡◌, ℕ, List, [], ◌∷◌, Bool, true, false, ◌&&◌, drop, sym, ap, ◌∙◌, lit<, refl}
use Rattle.std.proofs.lemmas.Bool.{eqb-true}
use Rattle.std.proofs.lemmas.Str.Pattern.{strip_prefix_char}
use Rattle.view_rules.specs.Policies.{is_wild}
use Rattle.policy_rows.proofs.clients.written_suffix.Goals as goal

both : (a b : Bool) → (a && b) ≡ true → a ≡ true
both true b is = refl
both false b is = cc

begins : (string : List ℕ) → is_wild string ≡ true → string ≡ 42 ∷ drop 1 string
begins [] wild = cc
begins (x ∷ rest) wild = ap (λ c. c ∷ rest) (sym (eqb-true 42 x (both _ _ wild)))

-- a string that is wild has the prefix
pub returns-in-None : goal.returns-in-None
returns-in-None c =
    let string = c.args.string.now in
    let begun = begins string (sym c.is_wild.ensures ∙ c.if-not-is_wild.false) in
    let cases = strip_prefix_char 42 c.as_str.result.now c.strip_prefix.result c.strip_prefix.ensures.cases (lit< tt) in
    let never = rw c.in-None.is at cases in
    absurd (never (drop 1 string) (c.as_str.ensures ∙ begun))
