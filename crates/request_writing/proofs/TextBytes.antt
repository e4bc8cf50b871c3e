-- The bytes of names, numbers and addresses, and where their texts are cut.
use Rattle.std.proofs.Common.{◌≡◌, ◌==◌, ◌<◌, ◌/◌, ◌%◌, ◌^◌, ℕ, zero, suc, List, [], ◌∷◌, ◌++◌, ◌&&◌, ◌||◌, Bool, true, false, not, Some, refl, ap, ◌∙◌, arith, codes, map, nat_le, nat_lt, length}
use Rattle.std.specs.Char.{digit_value, to_ascii_lowercase}
use Rattle.std.specs.Fmt.{decimal}
use Rattle.std.specs.List.{AllByRecursion, list_all, list_any, onto_first}
use Rattle.std.specs.Str.{IsAscii, IsUtf8}
use Rattle.std.specs.Str.Parse.{AllDigits, IsNumeral}
use Rattle.std.proofs.lemmas.Bool.{lt-ltb}
use Rattle.std.proofs.lemmas.Bool.Decides.{nat_tests}
use Rattle.std.proofs.lemmas.Fmt.{decimal_is_IsNumeral, first_decimal}
use Rattle.std.proofs.lemmas.Str.{IsUtf8-from_ascii}
use Rattle.std.proofs.lemmas.Str.Ascii.{IsAscii-nil, IsAscii-cons, lowercase_is}
use Rattle.std.proofs.lemmas.Str.Parse.{digit_from_value}
use Rattle.mesh_base.specs.Numeral.{is_numeral, leads_with_zero, number_up_to, plain_up_to}
use Rattle.mesh_base.specs.Pieces.{pieces}
use Rattle.net_cidr.specs.Texts.{group_text, groups_text, hex_digit, last_groups_of}
use Rattle.k8s_meta.specs.Scalars.{is_label_byte, is_made_of, is_name, is_name_byte}
use Rattle.mesh_text.specs.Names.{is_dotless}
use Rattle.mesh_text.specs.Targets.{port_of}
use Rattle.mesh_text.proofs.Names.{first, none, others}

-- each byte passes
abbrev pub Each : (ℕ → Bool) → List ℕ → Type 0
Each test text = AllByRecursion (λ b. test b ≡ true) text

module _ (test : ℕ → Bool) where
  each_of : (text : List ℕ) → list_any (λ b. not (test b)) text ≡ false → Each test text
  each_of [] e = tt
  each_of (b ∷ bs) e = (first (test b) _ e, each_of bs (others (test b) _ e))

  each_made : (text : List ℕ) → is_made_of test 253 text ≡ true → Each test text
  each_made text e = each_of text (none (length text == 0) (nat_lt 253 (length text)) _ e)

  pub each_append : (xs ys : List ℕ) → Each test xs → Each test ys → Each test (xs ++ ys)
  each_append [] ys h i = i
  each_append (x ∷ xs) ys h i = (h.0, each_append xs ys h.1 i)

  pub each_wider : (other : ℕ → Bool) → ((b : ℕ) → test b ≡ true → other b ≡ true) → (text : List ℕ) → Each test text → Each other text
  each_wider other wider [] h = tt
  each_wider other wider (b ∷ bs) h = (wider b h.0, each_wider other wider bs h.1)

-- ---- bytes

-- a byte of a name, or a colon
abbrev pub is_text_byte : ℕ → Bool
is_text_byte b = is_name_byte b || b == 58

-- a byte of ASCII, and no letter in upper case
abbrev pub is_plain : ℕ → Bool
is_plain b = nat_lt b 65 || (nat_lt 90 b && nat_lt b 128)

label_is_name : (b : ℕ) → is_label_byte b ≡ true → is_name_byte b ≡ true
unfolding is_name_byte
label_is_name b e = rw e refl

name_is_text : (b : ℕ) → is_name_byte b ≡ true → is_text_byte b ≡ true
name_is_text b e = rw e refl

text_is_plain : (b : ℕ) → is_text_byte b ≡ true → is_plain b ≡ true
unfolding is_name_byte is_label_byte
text_is_plain b e = grind (arith, nat_tests)

plain_is_ascii : (b : ℕ) → is_plain b ≡ true → b < 128
plain_is_ascii b e = grind (arith, nat_tests)

pub name_no_colon : (b : ℕ) → is_name_byte b ≡ true → (b == 58) ≡ false
unfolding is_name_byte is_label_byte
name_no_colon b e = grind (arith, nat_tests)

pub text_no_open : (b : ℕ) → is_text_byte b ≡ true → (b == 91) ≡ false
unfolding is_name_byte is_label_byte
text_no_open b e = grind (arith, nat_tests)

pub text_no_close : (b : ℕ) → is_text_byte b ≡ true → (b == 93) ≡ false
unfolding is_name_byte is_label_byte
text_no_close b e = grind (arith, nat_tests)

pub dot : is_name_byte 46 ≡ true
unfolding is_name_byte is_label_byte
dot = refl

pub colon : is_text_byte 58 ≡ true
unfolding is_name_byte is_label_byte
colon = refl

pub svc_bytes : Each is_name_byte (codes "svc.")
unfolding is_name_byte is_label_byte
svc_bytes = (refl, (refl, (refl, (refl, tt))))

pub as_text : (text : List ℕ) → Each is_name_byte text → Each is_text_byte text
as_text text h = each_wider is_name_byte is_text_byte name_is_text text h

pub as_plain : (text : List ℕ) → Each is_text_byte text → Each is_plain text
as_plain text h = each_wider is_text_byte is_plain text_is_plain text h

pub name_bytes : (text : List ℕ) → is_name text ≡ true → Each is_name_byte text
unfolding is_name
name_bytes text e = each_made is_name_byte text e

pub dotless_bytes : (text : List ℕ) → is_dotless text ≡ true → Each is_name_byte text
unfolding is_dotless
dotless_bytes text e = each_wider is_label_byte is_name_byte label_is_name text (each_made is_label_byte text e)

-- ---- texts of such bytes

lower_byte : (b : ℕ) (p q : Bool) → nat_lt b 65 ≡ p → nat_lt 90 b && nat_lt b 128 ≡ q → p || q ≡ true → to_ascii_lowercase b ≡ b
lower_byte b true q e f h = (lowercase_is b).1 (grind (arith, nat_tests))
lower_byte b false true e f h = (lowercase_is b).2 (grind (arith, nat_tests))
lower_byte b false false e f h = grind arith

pub stays_low : (text : List ℕ) → Each is_plain text → map to_ascii_lowercase text ≡ text
stays_low [] h = refl
stays_low (b ∷ bs) h = rw (lower_byte b _ _ refl refl h.0, stays_low bs h.1) refl

all_ascii : (text : List ℕ) → Each is_plain text → IsAscii text
all_ascii [] h = IsAscii-nil
all_ascii (b ∷ bs) h = IsAscii-cons b bs (plain_is_ascii b h.0) (all_ascii bs h.1)

pub plain_utf8 : (text : List ℕ) → Each is_plain text → IsUtf8 text
plain_utf8 text h = IsUtf8-from_ascii text (all_ascii text h)

module _ (mark : ℕ) (test : ℕ → Bool) (no_mark : (b : ℕ) → test b ≡ true → (b == mark) ≡ false) where
  pub one_piece : (text : List ℕ) → Each test text → pieces mark text ≡ text ∷ []
  unfolding pieces
  one_piece [] h = refl
  one_piece (b ∷ bs) h = rw (no_mark b h.0) (ap (onto_first b) (one_piece bs h.1))

  cut_at : (text rest : List ℕ) → Each test text → pieces mark (text ++ mark ∷ rest) ≡ text ∷ pieces mark rest
  unfolding pieces
  cut_at [] rest h = rw same refl
    where
      same : (mark == mark) ≡ true
      same = grind (arith, nat_tests)
  cut_at (b ∷ bs) rest h = rw (no_mark b h.0) (ap (onto_first b) (cut_at bs rest h.1))

  pub two_pieces : (left right : List ℕ) → Each test left → Each test right → pieces mark (left ++ mark ∷ right) ≡ left ∷ right ∷ []
  two_pieces left right h i = cut_at left right h ∙ ap (λ ps. left ∷ ps) (one_piece right i)

-- ---- decimals

digit_is_name : (c : ℕ) → digit_value c < 10 → is_name_byte c ≡ true
unfolding is_name_byte is_label_byte
digit_is_name c h =
    let range = digit_from_value c h in
    let low = range.0 in
    let high = range.1 in
    grind (arith, nat_tests)

digit_bytes : (ds : List ℕ) → AllDigits 10 ds → Each is_name_byte ds
digit_bytes [] all = tt
digit_bytes (c ∷ cs) all = (digit_is_name c all.0, digit_bytes cs all.1)

pub decimal_bytes : (n : ℕ) → n < 2 ^ 64 → Each is_name_byte (decimal n)
decimal_bytes n lt = digit_bytes (decimal n) (decimal_is_IsNumeral n lt).0.1

all_test : (ds : List ℕ) → AllDigits 10 ds → list_all (λ c. nat_lt (digit_value c) 10) ds ≡ true
all_test [] all = refl
all_test (c ∷ cs) all = rw (lt-ltb _ _ all.0) (all_test cs all.1)

numeral_test : (ds : List ℕ) → IsNumeral 10 ds → is_numeral 10 ds ≡ true
unfolding is_numeral
numeral_test ds h = rw (lt-ltb 0 (length ds) h.0, all_test ds h.1) refl

no_zero : (n : ℕ) → 0 < n → n < 2 ^ 64 → leads_with_zero (decimal n) ≡ false
unfolding leads_with_zero
no_zero n some lt = let start = first_decimal n some lt in grind (arith, nat_tests)

pub port_reads : (port : ℕ) → 0 < port → port < 65536 → port_of (decimal port) ≡ Some port
unfolding port_of plain_up_to number_up_to
port_reads port some lt =
    let is = decimal_is_IsNumeral port (omega arith) in
    let within : nat_le port 65535 ≡ true = grind (arith, nat_tests) in
    let above : (port == 0) ≡ false = grind (arith, nat_tests) in
    rw (no_zero port some (omega arith), numeral_test (decimal port) is.0, is.1, within, above) refl

-- ---- groups of addresses

hex_is_text : (d : ℕ) → d < 16 → is_text_byte (hex_digit d) ≡ true
unfolding is_name_byte is_label_byte
hex_is_text d lt = grind (arith, nat_tests)

abbrev AllGroups : List ℕ → Type 0
AllGroups gs = AllByRecursion (λ g. g < 65536) gs

groups_append : (gs : List ℕ) (g : ℕ) → AllGroups gs → g < 65536 → AllGroups (gs ++ g ∷ [])
groups_append [] g all lt = (lt, tt)
groups_append (h ∷ gs) g all lt = (all.0, groups_append gs g all.1 lt)

last_fit : (k n : ℕ) → AllGroups (last_groups_of k n)
unfolding last_groups_of
last_fit zero n = tt
last_fit (suc k) n = groups_append (last_groups_of k (n / 65536)) (n % 65536) (last_fit k (n / 65536)) (omega arith)

group_bytes : (g : ℕ) → g < 65536 → Each is_text_byte (group_text g)
group_bytes g lt = (hex_is_text (g / 4096) (omega arith), (hex_is_text (g / 256 % 16) (omega arith), (hex_is_text (g / 16 % 16) (omega arith), (hex_is_text (g % 16) (omega arith), tt))))

groups_bytes : (gs : List ℕ) → AllGroups gs → Each is_text_byte (groups_text gs)
groups_bytes [] all = tt
groups_bytes (g ∷ []) all = group_bytes g all.0
groups_bytes (g ∷ h ∷ gs) all = each_append is_text_byte (group_text g) (58 ∷ groups_text (h ∷ gs)) (group_bytes g all.0) (colon, groups_bytes (h ∷ gs) all.1)

pub v6_bytes : (n : ℕ) → Each is_text_byte (groups_text (last_groups_of 8 n))
v6_bytes n = groups_bytes (last_groups_of 8 n) (last_fit 8 n)
