-- Links that are closed, computed by the definitions.
use Rattle.std.proofs.Common.{◌≡◌, Bool, true, false, ℕ, List, [], ◌∷◌, ◌++◌, None, Ok, refl}
use Rattle.std.specs.Prelude.{codes}
use Rattle.mesh_base.specs.Limits.{usual_limits}
use Rattle.mesh_base.specs.declared.limits.Limits.{Limits}
use Rattle.mesh_links.specs.declared.call.LinkCall.TheVariants as calls
use Rattle.mesh_links.specs.declared.call.LinkEvent.TheVariants as events
use Rattle.mesh_links.specs.declared.call.ReadGot.TheVariants as reads
use Rattle.session_core.specs.Paths.{path_of}
use Rattle.session_core.specs.Phases.{Asking, phase_of}
use Rattle.serve_rules.specs.Batches.{Serving}
use Rattle.serve_rules.specs.FedLines.{FedRow}
use Rattle.serve_rules.specs.LinkStates.{LinkState, admits, closed, filled, fresh, goes_on, phase_in}
use Rattle.serve_rules.specs.Turns.{event_closes, event_to}

limited : Serving → Limits → Serving
limited serving limits = record serving { program = record serving.program { limits = limits } }

feed_path : List ℕ
feed_path = codes "/feed" ++ 10 ∷ []

-- with a limit of one link, a second one is closed at once
second_link : (serving : Serving) → event_closes (limited serving (record usual_limits { links = 1 })) (fresh 1 ∷ []) (events.New 2) ≡ calls.Close 2 ∷ []
unfolding limited
second_link serving = refl

second_link_left : (serving : Serving) → event_to (limited serving (record usual_limits { links = 1 })) (fresh 1 ∷ []) (events.New 2) ≡ fresh 1 ∷ []
unfolding limited
second_link_left serving = refl

-- with a limit of one feed, a second one isn't admitted
second_feed : (serving : Serving) → admits (limited serving (record usual_limits { feeds = 1 })) (record (fresh 1) { bytes = feed_path } ∷ []) [] (reads.Bytes feed_path) ≡ false
unfolding limited feed_path phase_of path_of
second_feed serving = refl

-- a link that ends without a byte is closed, and so is one whose request isn't whole when it ends
empty_link : (serving : Serving) → goes_on (phase_in (limited serving usual_limits) []) true [] ≡ false
unfolding limited phase_of
empty_link serving = refl

cut_request : goes_on (Ok Asking) true [] ≡ false
cut_request = refl

-- a link with another path is closed
other_path : (serving : Serving) → goes_on (phase_in (limited serving usual_limits) (codes "/x" ++ 10 ∷ [])) false [] ≡ false
unfolding limited phase_of path_of
other_path serving = refl

-- a feed whose input has ended is open while an answer is left, and closed after it
feed_end : (serving : Serving) → goes_on (phase_in (limited serving usual_limits) feed_path) true ((10 ∷ []) ∷ []) ≡ true
unfolding limited feed_path phase_of path_of
feed_end serving = refl

feed_end_written : (serving : Serving) → goes_on (phase_in (limited serving usual_limits) feed_path) true [] ≡ false
unfolding limited feed_path phase_of path_of
feed_end_written serving = refl

-- a subscriber of whose batch a message is too long is closed, and nothing is to be written on it
oversize : (fed : List FedRow) (s : LinkState) → filled fed s None ≡ closed s
oversize fed s = refl
