-- What a change of one link leaves at each number.
use Rattle.std.proofs.Common.{◌≡◌, ◌≢◌, ℕ, ◌+◌, Bool, true, false, cond, Option, Some, None, refl, sym, ap, ◌∙◌, arith, eqb-true, eq-eqb}
use Rattle.std.specs.Prelude.{is_some, option_map}
use Rattle.std.specs.BTreeMap.{is_at}
use Rattle.std.specs.Cmp.{eq_by_cmp_equiv, nat_cmp_total, unsigned_tied}
use Rattle.std.specs.Ordering.{nat_cmp}
use Rattle.std.proofs.lemmas.Map.{lookup-set_value}
use Rattle.std.proofs.lemmas.Map.Entries.{sum_by-set_value}
use Rattle.link_sessions.specs.Entries.{Entries, changed, changed_by, feeds_in, link_at, one_feed, passes, passes_at, with_link}
use Rattle.link_sessions.specs.Roles.{is_feed}
use Rattle.link_sessions.specs.declared.link.Link.{Link}

pub same_number : (k n : ℕ) → is_at (nat_cmp k) n ≡ true → k ≡ n
same_number k n e = eqb-true k n (sym (unsigned_tied k n) ∙ e)

pub is_here : (k : ℕ) → is_at (nat_cmp k) k ≡ true
is_here k = unsigned_tied k k ∙ eq-eqb k k refl

pub is_elsewhere : (k n : ℕ) → n ≢ k → is_at (nat_cmp k) n ≡ false
is_elsewhere k n apart = by_test (is_at (nat_cmp k) n) refl
  where
    by_test : (b : Bool) → is_at (nat_cmp k) n ≡ b → is_at (nat_cmp k) n ≡ false
    by_test true e = absurd (apart (sym (same_number k n e)))
    by_test false e = e

module _ (k : ℕ) (es : Entries) where
  pub set_at : (n : ℕ) (v w : Link) → link_at k es ≡ Some v → link_at n (with_link k es w) ≡ cond (is_at (nat_cmp k) n) (Some w) (link_at n es)
  set_at n v w is = lookup-set_value (eq_by_cmp_equiv nat_cmp_total) (is_at (nat_cmp k)) (λ x y h. ap (λ m. is_at (nat_cmp m) y) (same_number k x h)) n w es (ap is_some is)

  none_elsewhere : (n : ℕ) (b : Bool) → link_at k es ≡ None → is_at (nat_cmp k) n ≡ b → link_at n es ≡ cond b None (link_at n es)
  none_elsewhere n true is e = ap (λ m. link_at m es) (sym (same_number k n e)) ∙ is
  none_elsewhere n false is e = refl

  module _ (f : Link → Link) where
    changed_by_at : (n : ℕ) (found : Option Link) → link_at k es ≡ found → link_at n (changed_by k f es found) ≡ cond (is_at (nat_cmp k) n) (option_map f found) (link_at n es)
    changed_by_at n (Some v) is = set_at n v (f v) is
    changed_by_at n None is = none_elsewhere n (is_at (nat_cmp k) n) is refl

    -- the link of the number is changed, and the others stay
    pub changed_at : (n : ℕ) → link_at n (changed k f es) ≡ cond (is_at (nat_cmp k) n) (option_map f (link_at k es)) (link_at n es)
    changed_at n = changed_by_at n (link_at k es) refl

    pub other_at : (n : ℕ) → n ≢ k → link_at n (changed k f es) ≡ link_at n es
    other_at n apart = changed_at n ∙ ap (λ b. cond b (option_map f (link_at k es)) (link_at n es)) (is_elsewhere k n apart)

    pub here_at : link_at k (changed k f es) ≡ option_map f (link_at k es)
    here_at = changed_at k ∙ ap (λ b. cond b (option_map f (link_at k es)) (link_at k es)) (is_here k)

    -- the change keeps what a test says of the link
    abbrev pub Keeps : (Link → Bool) → Type 0
    Keeps test = (v : Link) → link_at k es ≡ Some v → test (f v) ≡ test v

    kept_by : (test : Link → Bool) (v : Link) (n : ℕ) (b : Bool) → Keeps test → link_at k es ≡ Some v → is_at (nat_cmp k) n ≡ b
        → passes test (cond b (Some (f v)) (link_at n es)) ≡ passes test (link_at n es)
    kept_by test v n true keeps is e = keeps v is ∙ sym (ap (passes test) (ap (λ m. link_at m es) (sym (same_number k n e)) ∙ is))
    kept_by test v n false keeps is e = refl

    passes_by : (test : Link → Bool) (n : ℕ) (found : Option Link) → Keeps test → link_at k es ≡ found → passes test (link_at n (changed_by k f es found)) ≡ passes test (link_at n es)
    passes_by test n None keeps is = refl
    passes_by test n (Some v) keeps is = ap (passes test) (set_at n v (f v) is) ∙ kept_by test v n (is_at (nat_cmp k) n) keeps is refl

    pub passes_same : (test : Link → Bool) (n : ℕ) → Keeps test → passes_at test (changed k f es) n ≡ passes_at test es n
    passes_same test n keeps = passes_by test n (link_at k es) keeps refl

    -- and of what others
    pub passes_other : (test : Link → Bool) (n : ℕ) → n ≢ k → passes_at test (changed k f es) n ≡ passes_at test es n
    passes_other test n apart = ap (passes test) (other_at n apart)

    cancelled : (a b c : ℕ) → a + c ≡ b + c → a ≡ b
    cancelled a b c e = omega arith

    pub feeds_by_count : (found : Option Link) → link_at k es ≡ found → ((v : Link) → link_at k es ≡ Some v → one_feed (f v) ≡ one_feed v) → feeds_in (changed_by k f es found) ≡ feeds_in es
    feeds_by_count None is keeps = refl
    feeds_by_count (Some v) is keeps =
        cancelled (feeds_in (with_link k es (f v))) (feeds_in es) (one_feed v) (sum_by-set_value one_feed (is_at (nat_cmp k)) es v (f v) is ∙ ap (λ m. feeds_in es + m) (keeps v is))

    pub feeds_same : ((v : Link) → link_at k es ≡ Some v → (f v).role ≡ v.role) → feeds_in (changed k f es) ≡ feeds_in es
    feeds_same keeps = feeds_by_count (link_at k es) refl (λ v is. ap (λ role. cond (is_feed role) 1 0) (keeps v is))

    -- one more, where a link that fed none begins to
    pub feeds_more : (v : Link) → link_at k es ≡ Some v → one_feed v ≡ 0 → one_feed (f v) ≡ 1 → feeds_in (changed k f es) ≡ feeds_in es + 1
    feeds_more v is none one =
        let sum : feeds_in (with_link k es (f v)) + one_feed v ≡ feeds_in es + one_feed (f v) = sum_by-set_value one_feed (is_at (nat_cmp k)) es v (f v) is in
        ap (λ found. feeds_in (changed_by k f es found)) is ∙ by_sum (feeds_in (with_link k es (f v))) (feeds_in es) (one_feed v) (one_feed (f v)) sum none one
      where
        by_sum : (a b x y : ℕ) → a + x ≡ b + y → x ≡ 0 → y ≡ 1 → a ≡ b + 1
        by_sum a b x y sum none one = omega arith
