-- What the names of a host's Service are, from its first two pieces and the rest.
use Rattle.std.proofs.Common.{◌≡◌, ℕ, List, [], ◌∷◌, ◌++◌, ◌&&◌, true, Some, None, refl, ap, ◌∙◌, codes, nat_eq, rules}
use Rattle.std.specs.Prelude.{if◌then◌else◌}
use Rattle.std.specs.Cmp.Lexicographic.{pointwise}
use Rattle.mesh_base.specs.Pieces.{pieces}
use Rattle.mesh_base.proofs.Cuts.{pieces_some}
use Rattle.mesh_text.specs.Names.{is_dotless}
use Rattle.mesh_text.specs.Targets.{names_of, full_name}
use Rattle.mesh_text.proofs.Pieces.{put_together}

nat_same : (n : ℕ) → nat_eq n n ≡ true
nat_same n = search rules

-- a front that is the same doesn't count
after_front : (front xs ys : List ℕ) → pointwise nat_eq (front ++ xs) (front ++ ys) ≡ pointwise nat_eq xs ys
after_front [] xs ys = refl
after_front (b ∷ bs) xs ys = rw (nat_same b) (after_front bs xs ys)

module _ (domain name ns zone : List ℕ) where
  abbrev host : List ℕ
  host = name ++ 46 ∷ (ns ++ 46 ∷ zone)

  same_zone : pointwise nat_eq host (full_name name ns domain) ≡ pointwise nat_eq zone (codes "svc." ++ domain)
  same_zone = after_front name _ _ ∙ after_front ns _ _

  of_pieces : (q : List ℕ) (qs : List (List ℕ)) → names_of domain host (name ∷ ns ∷ q ∷ qs) ≡ (if is_dotless name && is_dotless ns && pointwise nat_eq zone (codes "svc." ++ domain) then Some (name, ns) else None)
  of_pieces q qs = ap (λ b. if is_dotless name && is_dotless ns && b then Some (name, ns) else None) same_zone

pub names_are : (domain host rest name ns zone : List ℕ) → pieces 46 host ≡ name ∷ pieces 46 rest → pieces 46 rest ≡ ns ∷ pieces 46 zone
    → names_of domain host (pieces 46 host) ≡ (if is_dotless name && is_dotless ns && pointwise nat_eq zone (codes "svc." ++ domain) then Some (name, ns) else None)
names_are domain host rest name ns zone one two =
    let some = pieces_some 46 zone in
    let whole : host ≡ name ++ 46 ∷ (ns ++ 46 ∷ zone) = put_together 46 host name rest one ∙ ap (λ t. name ++ 46 ∷ t) (put_together 46 rest ns zone two) in
    let cut : pieces 46 host ≡ name ∷ ns ∷ some.0 ∷ some.1 = one ∙ ap (λ ps. name ∷ ps) (two ∙ ap (λ ps. ns ∷ ps) some.2) in
    ap (names_of domain host) cut ∙ ap (λ h. names_of domain h (name ∷ ns ∷ some.0 ∷ some.1)) whole ∙ of_pieces domain name ns zone some.0 some.1
