-- A Service is reached by its full name.
use Rattle.std.proofs.Common.{◌≡◌, ◌==◌, ◌<◌, ℕ, List, [], ◌∷◌, ◌++◌, ◌||◌, Bool, true, false, not, Option, Some, None, refl, ap, ◌∙◌, arith, codes, map, nat_eq, nat_lt, length, rules}
use Rattle.std.specs.Char.{to_ascii_lowercase}
use Rattle.std.specs.Cmp.Lexicographic.{pointwise}
use Rattle.std.specs.List.{list_any, onto_first}
use Rattle.std.proofs.lemmas.Bool.Decides.{nat_tests}
use Rattle.std.proofs.lemmas.Str.Ascii.{lowercase_is}
use Rattle.mesh_base.specs.Numeral.{plain_up_to, number_up_to, is_numeral, leads_with_zero}
use Rattle.mesh_base.specs.Pieces.{pieces}
use Rattle.mesh_base.proofs.Cuts.{pieces_some}
use Rattle.net_cidr.specs.Address.{four_bytes, v4_of, v4_of_pieces, v6_of, ip_of, either_of}
use Rattle.view_types.specs.declared.config.Config.{Config}
use Rattle.view_types.specs.declared.query.Target.TheVariants.{Service}
use Rattle.k8s_meta.specs.Scalars.{is_label_byte, is_name_byte, is_made_of, is_name}
use Rattle.mesh_text.specs.Names.{is_dotless}
use Rattle.mesh_text.specs.Targets.{full_name, names_of, service_target, host_target, with_port, hosted, lowered_target, target_of}
use Rattle.mesh_text.specs.FullNames.{EachFullNameLeadsToItsService}
use Rattle.mesh_text.proofs.Hosts.{names_are}
use Rattle.mesh_text.proofs.Names.{first, others, none}

-- each byte passes
abbrev Each : (ℕ → Bool) → List ℕ → Type 0
Each test [] = Unit {0}
Each test (b ∷ bs) = (test b ≡ true) × Each test bs

module _ (test : ℕ → Bool) where
  each_of : (text : List ℕ) → list_any (λ b. not (test b)) text ≡ false → Each test text
  each_of [] e = tt
  each_of (b ∷ bs) e = (first (test b) _ e, each_of bs (others (test b) _ e))

  each_made : (text : List ℕ) → is_made_of test 253 text ≡ true → Each test text
  each_made text e = each_of text (none (length text == 0) (nat_lt 253 (length text)) _ e)

  each_append : (xs ys : List ℕ) → Each test xs → Each test ys → Each test (xs ++ ys)
  each_append [] ys h i = i
  each_append (x ∷ xs) ys h i = (h.0, each_append xs ys h.1 i)

  each_wider : (other : ℕ → Bool) → ((b : ℕ) → test b ≡ true → other b ≡ true) → (text : List ℕ) → Each test text → Each other text
  each_wider other wider [] h = tt
  each_wider other wider (b ∷ bs) h = (wider b h.0, each_wider other wider bs h.1)

-- ---- bytes

label_is_name : (b : ℕ) → is_label_byte b ≡ true → is_name_byte b ≡ true
unfolding is_name_byte
label_is_name b e = rw e refl

label_no_dot : (b : ℕ) → is_label_byte b ≡ true → (b == 46) ≡ false
unfolding is_label_byte
label_no_dot b e = grind (arith, nat_tests)

name_no_colon : (b : ℕ) → is_name_byte b ≡ true → (b == 58) ≡ false
unfolding is_name_byte is_label_byte
name_no_colon b e = grind (arith, nat_tests)

name_no_bracket : (b : ℕ) → is_name_byte b ≡ true → (b == 91) ≡ false
unfolding is_name_byte is_label_byte
name_no_bracket b e = grind (arith, nat_tests)

below_or_above : (b : ℕ) → is_name_byte b ≡ true → (nat_lt b 65 || nat_lt 90 b) ≡ true
unfolding is_name_byte is_label_byte
below_or_above b e = grind (arith, nat_tests)

lower_byte : (b : ℕ) (p q : Bool) → nat_lt b 65 ≡ p → nat_lt 90 b ≡ q → p || q ≡ true → to_ascii_lowercase b ≡ b
lower_byte b true q e f h = (lowercase_is b).1 (grind (arith, nat_tests))
lower_byte b false true e f h = (lowercase_is b).2 (grind (arith, nat_tests))
lower_byte b false false e f h = grind arith

stays_low : (text : List ℕ) → Each is_name_byte text → map to_ascii_lowercase text ≡ text
stays_low [] h = refl
stays_low (b ∷ bs) h = rw (lower_byte b _ _ refl refl (below_or_above b h.0), stays_low bs h.1) refl

-- ---- pieces

module _ (mark : ℕ) (test : ℕ → Bool) (no_mark : (b : ℕ) → test b ≡ true → (b == mark) ≡ false) where
  one_piece : (text : List ℕ) → Each test text → pieces mark text ≡ text ∷ []
  unfolding pieces
  one_piece [] h = refl
  one_piece (b ∷ bs) h = rw (no_mark b h.0) (ap (onto_first b) (one_piece bs h.1))

  cut_at : (text rest : List ℕ) → Each test text → pieces mark (text ++ mark ∷ rest) ≡ text ∷ pieces mark rest
  unfolding pieces
  cut_at [] rest h = rw same refl
    where
      same : (mark == mark) ≡ true
      same = grind (arith, nat_tests)
  cut_at (b ∷ bs) rest h = rw (no_mark b h.0) (ap (onto_first b) (cut_at bs rest h.1))

-- ---- no IPv4 text has a piece "svc"

third_none : (a b d : Option ℕ) → four_bytes a b None d ≡ None
third_none None b d = refl
third_none (Some a) None d = refl
third_none (Some a) (Some b) d = refl

svc_labels : Each is_label_byte (115 ∷ 118 ∷ 99 ∷ [])
unfolding is_label_byte
svc_labels = (refl, (refl, (refl, tt)))

svc_is_no_number : plain_up_to 255 (115 ∷ 118 ∷ 99 ∷ []) ≡ None
unfolding plain_up_to number_up_to is_numeral leads_with_zero
svc_is_no_number = refl

no_four : (a b q : List ℕ) (qs : List (List ℕ)) → v4_of_pieces (a ∷ b ∷ (115 ∷ 118 ∷ 99 ∷ []) ∷ q ∷ qs) ≡ None
no_four a b q [] = rw svc_is_no_number (third_none (plain_up_to 255 a) (plain_up_to 255 b) (plain_up_to 255 q))
no_four a b q (p ∷ ps) = refl

same_text : (text : List ℕ) → pointwise nat_eq text text ≡ true
same_text [] = refl
same_text (b ∷ bs) = rw (same b) (same_text bs)
  where
    same : (n : ℕ) → nat_eq n n ≡ true
    same n = search rules

module _ (domain ns name : List ℕ) (low_ns : Each is_label_byte ns) (low_name : Each is_label_byte name) (is_space : is_dotless ns ≡ true) (is_own : is_dotless name ≡ true) where
  abbrev zone : List ℕ
  zone = codes "svc." ++ domain

  abbrev rest : List ℕ
  rest = ns ++ 46 ∷ zone

  abbrev full : List ℕ
  full = full_name name ns domain

  cut_name : pieces 46 full ≡ name ∷ pieces 46 rest
  cut_name = cut_at 46 is_label_byte label_no_dot name rest low_name

  cut_ns : pieces 46 rest ≡ ns ∷ pieces 46 zone
  cut_ns = cut_at 46 is_label_byte label_no_dot ns zone low_ns

  cut_svc : pieces 46 zone ≡ (115 ∷ 118 ∷ 99 ∷ []) ∷ pieces 46 domain
  cut_svc = cut_at 46 is_label_byte label_no_dot (115 ∷ 118 ∷ 99 ∷ []) domain svc_labels

  no_v4 : v4_of full ≡ None
  unfolding v4_of
  no_v4 =
      let some = pieces_some 46 domain in
      ap v4_of_pieces (cut_name ∙ ap (λ ps. name ∷ ps) (cut_ns ∙ ap (λ ps. ns ∷ ps) (cut_svc ∙ ap (λ ps. (115 ∷ 118 ∷ 99 ∷ []) ∷ ps) some.2))) ∙ no_four name ns some.0 some.1

  the_names : names_of domain full (pieces 46 full) ≡ Some (name, ns)
  the_names = names_are domain full rest name ns zone cut_name cut_ns ∙ rw (is_own, is_space, same_text zone) refl

  no_address : (o : Option ℕ) → host_target domain full 80 (either_of None o) ≡ Some (Service ns name 80)
  no_address None = ap (service_target 80) the_names
  no_address (Some n) = ap (service_target 80) the_names

  at_host : with_port domain full (Some 80) ≡ Some (Service ns name 80)
  unfolding ip_of
  at_host = ap (λ o. host_target domain full 80 (either_of o (v6_of full))) no_v4 ∙ no_address (v6_of full)

-- no bracket stands in front
as_hosted : (domain text : List ℕ) → Each is_name_byte text → 0 < length text → lowered_target domain text ≡ hosted domain (pieces 58 text)
as_hosted domain [] h some = grind arith
as_hosted domain (b ∷ bs) h some = rw (name_no_bracket b h.0) refl

some_length : (name rest : List ℕ) → 0 < length (name ++ 46 ∷ rest)
some_length [] rest = omega arith
some_length (b ∷ bs) rest = omega arith

module _ (config : Config) (ns name : List ℕ) (is_space : is_dotless ns ≡ true) (is_own : is_dotless name ≡ true) (is_domain : is_name config.cluster_domain ≡ true) where
  labels : (text : List ℕ) → is_dotless text ≡ true → Each is_label_byte text
  unfolding is_dotless
  labels text e = each_made is_label_byte text e

  domain_bytes : Each is_name_byte config.cluster_domain
  unfolding is_name
  domain_bytes = each_made is_name_byte config.cluster_domain is_domain

  names : (text : List ℕ) → is_dotless text ≡ true → Each is_name_byte text
  names text e = each_wider is_label_byte is_name_byte label_is_name text (labels text e)

  svc_bytes : Each is_name_byte (codes "svc.")
  unfolding is_name_byte is_label_byte
  svc_bytes = (refl, (refl, (refl, (refl, tt))))

  dot : is_name_byte 46 ≡ true
  unfolding is_name_byte is_label_byte
  dot = refl

  bytes : Each is_name_byte (full_name name ns config.cluster_domain)
  bytes = each_append is_name_byte name _ (names name is_own) (dot, each_append is_name_byte ns _ (names ns is_space) (dot, each_append is_name_byte (codes "svc.") config.cluster_domain svc_bytes domain_bytes))

  leads : target_of config (full_name name ns config.cluster_domain) ≡ Some (Service ns name 80)
  unfolding target_of
  leads =
      ap (lowered_target config.cluster_domain) (stays_low _ bytes)
      ∙ as_hosted config.cluster_domain _ bytes (some_length name _)
      ∙ ap (hosted config.cluster_domain) (one_piece 58 is_name_byte name_no_colon _ bytes)
      ∙ at_host config.cluster_domain ns name (labels ns is_space) (labels name is_own) is_space is_own

pub each_leads : EachFullNameLeadsToItsService
each_leads config ns name h i j = leads config ns name h i j
