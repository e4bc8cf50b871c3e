-- How new links are numbered.
use Rattle.std.specs.Prelude.{◌≡◌, ℕ, List}
use Rattle.mesh_links.specs.declared.call.LinkEvent.{LinkEvent}
use Rattle.mesh_links.specs.Calls.{AreAbove, last_of_events}

-- Events show new links with numbers above the first, each above those before it, and last is the greatest number after them.
pub record Numbered (first last : ℕ) (shown : List LinkEvent) : Type 0 where
  pub above : AreAbove first shown
  pub greatest : last_of_events first shown ≡ last
