-- The first of the Servers that match is the one that is chosen.
use Rattle.std.proofs.Common.{◌≡◌, ◌≢◌, ℕ, true, List, [], ◌∷◌, Option, Some, None, inl, inr, refl, sym, ap, subst, ◌∙◌}
use Rattle.std.specs.Cmp.{tied_itself}
use Rattle.std.specs.Cmp.Lexicographic.{nat_list_cmp_total, slice_cmp}
use Rattle.std.specs.FinMap.{get}
use Rattle.std.specs.List.{AllByRecursion, slice_get}
use Rattle.std.specs.Ordering.{nat_cmp, ordering_reverse, ordering_then}
use Rattle.std.specs.Prelude.{option_map}
use Rattle.std.specs.declared.cmp.Ordering.TheVariants.{Less, Equal, Greater}
use Rattle.std.proofs.lemmas.Map.Keys.{sorted_head}
use Rattle.mesh_base.specs.declared.key.ObjKey.{ObjKey}
use Rattle.view_types.specs.Objects.{AtKeys, ObjectMap, key_of}
use Rattle.view_types.specs.declared.object.Object.{Object}
use Rattle.view_types.specs.declared.object.Object.TheVariants as object
use Rattle.view_types.specs.declared.pod.Pod.{Pod}
use Rattle.view_types.specs.declared.server.ServerSpec.{ServerSpec}
use Rattle.view_rules.specs.Laws.{name_cmp}
use Rattle.view_rules.specs.PolicyLaws.{IsServerFor, server_key}
use Rattle.view_rules.specs.Servers.{chosen_server}
use Rattle.view_rules.proofs.Among.{Among, among_from, contained}
use Rattle.view_rules.proofs.ServersOfPorts.{server_is, server_told, servers_are_the_least}
use Rattle.mark_rules.specs.ServerMatches.{AreMatches, FirstIsChosen, MatchesStay, is_match, matches_at}
use Rattle.mark_rules.proofs.MarkedObjects.{held_stays}

pub matches_stay : MatchesStay
matches_stay changed before after leads ns pod number name misses = ap (is_match ns pod number) (sym (held_stays leads (server_key ns name) misses))

-- what stands after the first is greater
is_after : (n m : List ℕ) (ms : List (List ℕ)) → AllByRecursion (λ j. slice_cmp nat_cmp n j ≡ Less) ms → Among m ms → slice_cmp nat_cmp n m ≡ Less
is_after n m [] all at = absurd at
is_after n m (k ∷ ks) all at = elim at [ inl same ↦ subst (λ j. slice_cmp nat_cmp n j ≡ Less) same all.0 | inr rest ↦ is_after n m ks all.1 rest ]

module _ (held : ObjectMap) (own : AtKeys held) (ns : List ℕ) (pod : Pod) (number : ℕ) where
  -- a name that matches is that of a Server
  match_is : (name : List ℕ) (found : Option Object) → get held (server_key ns name) ≡ found → is_match ns pod number found ≡ true → (s : ServerSpec) × (s.meta.name ≡ name) × IsServerFor held ns pod number s
  match_is name None is e = absurd (cc e)
  match_is name (Some o) is e =
      let key = own (server_key ns name) o is in
      let server = server_is held ns pod number o e (ap (get held) key ∙ is) in
      (server.0, ap (λ (k : ObjKey). k.name) (ap key_of server.1 ∙ key), server.2)

  -- and the name of one matches
  is_matched : (s : ServerSpec) → IsServerFor held ns pod number s → matches_at held ns pod number s.meta.name ≡ true
  is_matched s is = ap (is_match ns pod number) is.at_key ∙ (server_told held own ns pod number s is).0

  here : (s : ServerSpec) → IsServerFor held ns pod number s → s.meta.ns ≡ ns
  here s is = ap (λ (k : ObjKey). k.ns) (own (server_key ns s.meta.name) (object.Server s) is.at_key)

  by_name : (s t : ServerSpec) → s.meta.ns ≡ t.meta.ns → name_cmp s.meta t.meta ≡ slice_cmp nat_cmp s.meta.name t.meta.name
  by_name s t e =
      let tied : slice_cmp nat_cmp s.meta.ns t.meta.ns ≡ Equal = ap (slice_cmp nat_cmp s.meta.ns) (sym e) ∙ tied_itself nat_list_cmp_total s.meta.ns in
      ap (λ o. ordering_then o (slice_cmp nat_cmp s.meta.name t.meta.name)) tied

  module _ (names : List (List ℕ)) (are : AreMatches held ns pod number names) where
    named : (s : ServerSpec) → IsServerFor held ns pod number s → Among s.meta.name names
    named s is = among_from names s.meta.name ((are.each s.meta.name).1 (is_matched s is))

    server_of : (name : List ℕ) → Among name names → (s : ServerSpec) × (s.meta.name ≡ name) × IsServerFor held ns pod number s
    server_of name at = match_is name (get held (server_key ns name)) refl ((are.each name).0 (contained names name at))

  first_is : (names : List (List ℕ)) → AreMatches held ns pod number names → (chosen : Option ServerSpec) → chosen_server held ns pod number ≡ chosen → option_map (λ (s : ServerSpec). s.meta.name) chosen ≡ slice_get names 0
  first_is [] are None is = refl
  first_is (n ∷ ns') are None is =
      let server = server_of (n ∷ ns') are n (inl refl) in
      absurd ((servers_are_the_least held own ns pod number).none is server.0 server.2)
  first_is [] are (Some s) is = absurd (named [] are s ((servers_are_the_least held own ns pod number).some s is).is)
  first_is (n ∷ ns') are (Some s) is =
      let least = (servers_are_the_least held own ns pod number).some s is in
      let server = server_of (n ∷ ns') are n (inl refl) in
      let low : slice_cmp nat_cmp s.meta.name n ≢ Greater =
      subst (λ m. slice_cmp nat_cmp s.meta.name m ≢ Greater) server.1
      (subst (λ o. o ≢ Greater) (by_name s server.0 (here s least.is ∙ sym (here server.0 server.2))) (least.least server.0 server.2)) in
      elim (named (n ∷ ns') are s least.is) [
        | inl same ↦ ap Some (sym same)
        | inr rest ↦
            let less = is_after n s.meta.name ns' (sorted_head (slice_cmp nat_cmp) n ns' are.rise) rest in
            absurd (low (nat_list_cmp_total.antisymm s.meta.name n ∙ ap ordering_reverse less))
      ]

pub first_is_chosen : FirstIsChosen
first_is_chosen held own ns pod number names are = first_is held own ns pod number names are (chosen_server held ns pod number) refl
