-- Metadata that was read is lawful.
use Rattle.std.proofs.Common.{◌≡◌, ◌≢◌, ℕ, Bool, true, false, List, [], ◌∷◌, codes, Option, Some, None, if◌then◌else◌}
use Rattle.std.specs.Str.{IsUtf8}
use Rattle.k8s_meta.specs.Given.{GivesOnly}
use Rattle.k8s_meta.specs.Lawful.{HasOnly, IsLawfulMeta, IsString}
use Rattle.k8s_meta.specs.Metadata.{is_time, meta_within, time_of}
use Rattle.k8s_meta.specs.Scalars.{is_name_byte, name_within}
use Rattle.k8s_meta.proofs.Given.{after, last, required_gives}
use Rattle.k8s_meta.proofs.GivenTexts.{default_bytes, default_utf8, name_bytes, name_gives, name_utf8, namespace_bytes_or, namespace_or_gives, some_text_gives}

not_blank : (o : Option (List ℕ)) → time_of o ≢ Some []
unfolding is_time
not_blank None e = absurd cc
not_blank (Some []) e = absurd cc
not_blank (Some (c ∷ cs)) e = cases (is_time (c ∷ cs)) e
  where
    cases : (b : Bool) → (if b then Some (c ∷ cs) else None) ≡ Some [] → ⊥
    cases true e = absurd cc
    cases false e = absurd cc

time_text : (o : Option (List ℕ)) → IsString o → IsString (time_of o)
time_text None is = tt
time_text (Some t) is = cases (is_time t)
  where
    cases : (b : Bool) → IsString (if b then Some t else None)
    cases true = is
    cases false = tt

pub meta_gives : (most : ℕ) → GivesOnly IsLawfulMeta (meta_within most)
unfolding meta_within
meta_gives most s =
    after IsLawfulMeta _ _ (λ o _. after IsLawfulMeta _ _ (λ m _. after IsLawfulMeta _ _ (λ name is_name. after IsLawfulMeta _ _ (λ ns is_ns.
    after IsLawfulMeta _ _ (λ labels _. after IsLawfulMeta _ _ (λ notes _. after IsLawfulMeta _ _ (λ created is_created. last IsLawfulMeta _ (record {
      ns_text = namespace_or_gives (codes "default") default_utf8 _ ns is_ns;
      ns_bytes = namespace_bytes_or (codes "default") default_bytes _ ns is_ns;
      name = required_gives (λ (t : List ℕ). t ≢ []) (name_within most) (name_gives most) _ name is_name;
      name_text = required_gives IsUtf8 (name_within most) (name_utf8 most) _ name is_name;
      name_bytes = required_gives (HasOnly is_name_byte) (name_within most) (name_bytes most) _ name is_name;
      created = not_blank created;
      created_text = time_text created (some_text_gives _ created is_created);
    }))))))))
