-- The numbers of the links that a script has opened, and how a step and a poll change them.
use Rattle.std.specs.Prelude.{◌≡◌, ◌<◌, ℕ, ◌==◌, Bool, List, ◌++◌, ◌∷◌, [], map, Option, Some, None}
use Rattle.std.specs.List.{list_any}
use Rattle.mesh_links.specs.Calls.{AreAbove, is_open_after_events, is_open_in, last_in, last_of_events}
use Rattle.mesh_links.specs.declared.call.LinkCall.{LinkCall}
use Rattle.mesh_links.specs.declared.call.LinkEvent.{LinkEvent}
use Rattle.mesh_links.specs.declared.call.LinkEvent.TheVariants as events
use Rattle.mem_links.specs.declared.play.OpenLink.{OpenLink}

abbrev pub numbers_of : List OpenLink → List ℕ
numbers_of links = map (λ link. link.number) links

abbrev pub is_among : ℕ → List ℕ → Bool
is_among n numbers = list_any (λ m. m == n) numbers

-- a step shows this event, if any, and leads to this greatest number and these open links
abbrev pub Steps : Option LinkEvent → ℕ → List ℕ → ℕ → List ℕ → Type 0
Steps None last numbers last_now numbers_now = (last_now ≡ last) × (numbers_now ≡ numbers)
Steps (Some (events.New n)) last numbers last_now numbers_now = (last < n) × (last_now ≡ n) × (numbers_now ≡ numbers ++ n ∷ [])
Steps (Some (events.Readable n)) last numbers last_now numbers_now = (last_now ≡ last) × (numbers_now ≡ numbers)
Steps (Some (events.Writable n)) last numbers last_now numbers_now = (last_now ≡ last) × (numbers_now ≡ numbers)

-- the steps of a poll show these events, and lead to this greatest number and these open links
pub record Shows (last : ℕ) (numbers : List ℕ) (shown : List LinkEvent) (last_now : ℕ) (numbers_now : List ℕ) : Type 0 where
  pub above : AreAbove last shown
  pub last_is : last_now ≡ last_of_events last shown
  pub open_are : (n : ℕ) → is_among n numbers_now ≡ is_open_after_events n (is_among n numbers) shown

-- by the trace these links are open, and this number is the greatest
pub record Tells (trace : List LinkCall) (last : ℕ) (numbers : List ℕ) : Type 0 where
  pub last_is : last_in trace ≡ last
  pub open_are : (n : ℕ) → is_open_in trace n ≡ is_among n numbers
