use Rattle.std.proofs.Common.{Some, ◌∙◌, ap, cond}
use Rattle.key_streams.proofs.Counts.{at_id}
use Rattle.row_views.specs.Ids.{key_at}
use Rattle.shared_endpoints.proofs.Standing.{adds, join_each}
use Rattle.shared_endpoints.proofs.shared.SharedEndpoints.add.Goals as goal

pub returns-clause-stands : goal.returns-clause-stands
returns-clause-stands c = λ config limits held standing.
    let self = c.args.self.now in
    let id = c.args.id in
    (adds config limits held self.index self.by_key c.open_at.new.by_key self.by_id c.insert.new.self self.limits id c.args.key c.requires.free c.in_ok-open_at.ensures
    (λ n. c.in_ok-insert.ensures.updates.0 n ∙ ap (λ b. cond b (Some c.args.key) (key_at self.by_id n)) (at_id id n)) standing c.requires.there).stands

pub returns-clause-shown : goal.returns-clause-shown
returns-clause-shown c = λ config limits held standing.
    let self = c.args.self.now in
    let id = c.args.id in
    (adds config limits held self.index self.by_key c.open_at.new.by_key self.by_id c.insert.new.self self.limits id c.args.key c.requires.free c.in_ok-open_at.ensures
    (λ n. c.in_ok-insert.ensures.updates.0 n ∙ ap (λ b. cond b (Some c.args.key) (key_at self.by_id n)) (at_id id n)) standing c.requires.there).shows

pub returns-clause-each : goal.returns-clause-each
returns-clause-each c = join_each c.args.key c.args.self.now.by_key c.open_at.new.by_key c.args.id c.in_ok-open_at.ensures
