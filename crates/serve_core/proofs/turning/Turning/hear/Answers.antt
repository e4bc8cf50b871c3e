use Rattle.std.proofs.Common.{ℕ, Bool, true, false, List, Ok, Err, refl, inr}
use Rattle.std.specs.Prelude.{Result}
use Rattle.mesh_base.specs.declared.memory.Memory.{Memory}
use Rattle.session_core.specs.declared.session.Ask.{Ask}
use Rattle.feed_history.specs.KnownPatterns.{PatternsNow, known_over}
use Rattle.serve_core.specs.Hearing.{Hears, IsGiven, TakesAll}
use Rattle.serve_core.specs.declared.turning.Turning.{Turning}
use Rattle.serve_core.proofs.turning.Turning.hear.Goals as goal

-- the bytes have no fault, and what they ask for is done, whatever comes of it
heard : (number : ℕ) (piece : List ℕ) (known : PatternsNow) (old mid new : Turning) (asked : List Ask) (result : Result Bool Memory) → IsGiven number piece (Ok asked) old mid → TakesAll number asked known mid result new → Hears number piece known old result new
heard number piece known old mid new asked (Ok true) given takes = record { asked = asked; mid = mid; given = given; takes = takes }
heard number piece known old mid new asked (Ok false) given takes = inr (record { asked = asked; mid = mid; given = given; takes = takes })
heard number piece known old mid new asked (Err memory) given takes = inr (record { asked = asked; mid = mid; given = given; takes = takes })

pub returns-in-Ok-clause-hears : goal.returns-in-Ok-clause-hears
returns-in-Ok-clause-hears g c =
    let mid : Turning = record c.args.self.now { kept = c.feed.new.self } in
    let given : IsGiven c.args.number c.args.piece.now (Ok c.in-Ok.asks) c.args.self.now mid = record { same = refl; feeds = c.in-Ok.ensures.entries; settled = c.in-Ok.ensures.settled } in
    heard c.args.number c.args.piece.now (known_over g.P.Patterns c.args.patterns.now c.take_asks.new.patterns) c.args.self.now mid c.take_asks.new.self c.in-Ok.asks c.take_asks.result given c.take_asks.ensures.takes
