use Rattle.std.proofs.Common.{◌≡◌, ◌≤◌, ◌<◌, ℕ, Bool, true, false, Some, None, if◌then◌else◌, sym, ap, ◌∙◌, arith}
use Rattle.std.specs.Prelude.{nat_lt}
use Rattle.std.proofs.lemmas.Result.{err_from_is_err_and}
use Rattle.mesh_links.specs.Calls.{with_call}
use Rattle.mesh_links.specs.declared.call.LinkCall.TheVariants as calls
use Rattle.serve_core.proofs.CallSteps.{may_close, new_close}
use Rattle.serve_core.proofs.ShownEvents.{new_closed, new_opened}
use Rattle.serve_core.proofs.turning.Turning.admit.Goals as goal

not_less : (a b : ℕ) → b ≤ a → nat_lt a b ≡ false
not_less a b le = grind arith

is_less : (a b : ℕ) → a < b → nat_lt a b ≡ true
is_less a b less = grind arith

pub returns-then-len-self-clause-calls : goal.returns-then-len-self-clause-calls
returns-then-len-self-clause-calls g c =
    let old = c.args.links.now in
    new_close g.N.Links old c.close.new.self c.args.number (may_close g.N.Links old c.close.new.self c.args.number c.close.ensures.traced c.close.ensures.cause)

pub returns-then-len-self-clause-shows : goal.returns-then-len-self-clause-shows
returns-then-len-self-clause-shows g c =
    let T = g.N.Links.trace in
    let n = c.args.number in
    let limit = c.args.self.now.limits.links in
    let full = ap (λ k. nat_lt k limit) (sym c.len.ensures) ∙ not_less c.len.result limit c.if-len-self.true in
    new_closed n c.args.self.now (T c.args.links.now) (T c.close.new.self) full
    (λ trace told shown. c.close.ensures.traced trace told ∙ ap (λ (b : Bool). Some (with_call trace (if b then Some (calls.Close n) else None))) shown)

pub returns-in_err-link-clause-shows : goal.returns-in_err-link-clause-shows
returns-in_err-link-clause-shows g c =
    let p = err_from_is_err_and c.from_residual.result c.from_residual.ensures.1 in
    rw p.1 (λ config limits pat fed links trace more told at awaits. told)

pub returns-clause-shows : goal.returns-clause-shows
returns-clause-shows g c =
    let T = g.N.Links.trace in
    let n = c.args.number in
    let limit = c.args.self.now.limits.links in
    let room = ap (λ k. nat_lt k limit) (sym c.len.ensures) ∙ is_less c.len.result limit c.if-len-self.false in
    let made = c.in_ok-link.ensures in
    new_opened n c.args.self.now c.open.new.self c.in_ok-link.link (T c.args.links.now) c.open.result c.ranges.number.fits room
    (record { stands = made.stands; outbox = made.outbox; role = made.role; readable = made.readable; writable = made.writable; ended = made.ended }) c.open.ensures.entries c.open.ensures.settled
