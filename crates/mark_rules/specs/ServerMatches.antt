-- The names of the Servers that match a port of a Pod. Only a changed Server has to be checked
-- again.
use Rattle.std.specs.Prelude.{◌≡◌, ◌↔◌, true, false, ℕ, Bool, List, Option, Some, None, Contains, option_map, slice_get}
use Rattle.std.specs.Cmp.Lexicographic.{slice_cmp}
use Rattle.std.specs.FinMap.{get}
use Rattle.std.specs.List.Sorted.{IsStrictlySortedBy}
use Rattle.std.specs.Ordering.{nat_cmp}
use Rattle.view_types.specs.Objects.{AtKeys, ObjectMap}
use Rattle.view_types.specs.declared.mark.Mark.{Mark}
use Rattle.view_types.specs.declared.mark.Mark.TheVariants.{Obj}
use Rattle.view_types.specs.declared.object.Object.{Object}
use Rattle.view_types.specs.declared.pod.Pod.{Pod}
use Rattle.view_types.specs.declared.server.ServerSpec.{ServerSpec}
use Rattle.view_rules.specs.PolicyLaws.{server_key}
use Rattle.view_rules.specs.Servers.{chosen_server, is_server_for}
use Rattle.mark_rules.specs.Changes.{Leads}
use Rattle.mark_rules.specs.Marks.{has_mark}

abbrev pub is_match : List ℕ → Pod → ℕ → Option Object → Bool
is_match ns pod number None = false
is_match ns pod number (Some o) = is_server_for ns pod number o

-- the Server of the name is held, and selects the Pod and the port
abbrev pub matches_at : ObjectMap → List ℕ → Pod → ℕ → List ℕ → Bool
matches_at held ns pod number name = is_match ns pod number (get held (server_key ns name))

-- these are the names of the Servers that match, ascending
pub record AreMatches (held : ObjectMap) (ns : List ℕ) (pod : Pod) (number : ℕ) (names : List (List ℕ)) : Type 0 where
  pub rise : IsStrictlySortedBy (slice_cmp nat_cmp) names
  pub each : (name : List ℕ) → Contains names name ↔ (matches_at held ns pod number name ≡ true)

-- The first of these is the chosen Server.
abbrev pub FirstIsChosen : Type 0
FirstIsChosen = (held : ObjectMap) → AtKeys held → (ns : List ℕ) (pod : Pod) (number : ℕ) (names : List (List ℕ)) → AreMatches held ns pod number names
    → option_map (λ (s : ServerSpec). s.meta.name) (chosen_server held ns pod number) ≡ slice_get names 0

-- A Server whose own mark is not of a change matches after it exactly if it matched before.
abbrev pub MatchesStay : Type 0
MatchesStay = (changed : List Mark) (before after : ObjectMap) → Leads changed before after → (ns : List ℕ) (pod : Pod) (number : ℕ) (name : List ℕ)
    → has_mark changed (Obj (server_key ns name)) ≡ false → matches_at after ns pod number name ≡ matches_at before ns pod number name
