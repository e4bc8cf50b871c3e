-- The link of a subscription.
use Rattle.std.proofs.Common.{◌≡◌, ℕ, Bool, true, false, ◌&&◌, Option, Some, None, refl, sym, ap, ◌∙◌}
use Rattle.std.specs.BTreeMap as tree
use Rattle.std.specs.Ordering.{nat_cmp}
use Rattle.link_sessions.specs.Entries.{entries_of, link_at, passes, passes_at}
use Rattle.link_sessions.specs.Roles.{is_to_drain}
use Rattle.link_sessions.specs.Settled.{IsSettled, subscribes}
use Rattle.link_sessions.specs.declared.link.Link.{Link}
use Rattle.link_sessions.specs.declared.open_links.OpenLinks.{OpenLinks}

module _ (kept : OpenLinks) (id : ℕ) (settled : IsSettled kept) where
  abbrev drains : Link → Bool
  drains link = subscribes id link && is_to_drain link

  first_holds : (a b : Bool) → (a && b) ≡ true → a ≡ true
  first_holds true b e = refl
  first_holds false b e = e

  subscribes_too : (found : Option Link) → passes drains found ≡ true → passes (subscribes id) found ≡ true
  subscribes_too None e = e
  subscribes_too (Some link) e = first_holds (subscribes id link) (is_to_drain link) e

  -- a link that a drain has its turn on is the one of the subscription
  drained_is : (n : ℕ) → passes_at drains (entries_of kept) n ≡ true → tree.get nat_cmp kept.by_sub id ≡ Some n
  drained_is n e = settled.found.there id n (subscribes_too (link_at n (entries_of kept)) e)

  pub no_subscriber : tree.get nat_cmp kept.by_sub id ≡ None → (n : ℕ) → passes_at drains (entries_of kept) n ≡ false
  no_subscriber none n = by_test (passes_at drains (entries_of kept) n) refl
    where
      by_test : (b : Bool) → passes_at drains (entries_of kept) n ≡ b → passes_at drains (entries_of kept) n ≡ false
      by_test true e = absurd (let not : None ≡ Some n = sym none ∙ drained_is n e in cc)
      by_test false e = e

  module _ (number : ℕ) (at : tree.get nat_cmp kept.by_sub id ≡ Some number) where
    pub is_open : link_at number (entries_of kept) ≡ None → ⊥
    is_open none = let not : false ≡ true = sym (ap (passes (subscribes id)) none) ∙ settled.found.found id number at in cc

    module _ (link : Link) (is : link_at number (entries_of kept) ≡ Some link) where
      own : subscribes id link ≡ true
      own = sym (ap (passes (subscribes id)) is) ∙ settled.found.found id number at

      pub drains_here : is_to_drain link ≡ true → passes_at drains (entries_of kept) number ≡ true
      drains_here turn = ap (passes drains) is ∙ ap (λ b. b && is_to_drain link) own ∙ turn

      pub drains_nowhere : is_to_drain link ≡ false → (n : ℕ) → passes_at drains (entries_of kept) n ≡ false
      drains_nowhere turn n = by_test (passes_at drains (entries_of kept) n) refl
        where
          by_test : (b : Bool) → passes_at drains (entries_of kept) n ≡ b → passes_at drains (entries_of kept) n ≡ false
          by_test true e =
              let both : Some n ≡ Some number = sym (drained_is n e) ∙ at in
              let same : n ≡ number = cc in
              let not : true ≡ false = sym e ∙ ap (passes_at drains (entries_of kept)) same ∙ ap (passes drains) is ∙ ap (λ b. b && is_to_drain link) own ∙ turn in
              absurd cc
          by_test false e = e
