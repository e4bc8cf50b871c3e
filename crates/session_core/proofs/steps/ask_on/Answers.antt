use Rattle.std.proofs.Common.{◌++◌, ◌∙◌, refl}
use Rattle.session_core.proofs.StateSteps.{asked_goes, asking_goes, request_fault}
use Rattle.session_core.proofs.steps.ask_on.Goals as goal

pub returns-in-Ok : goal.returns-in-Ok
returns-in-Ok c limits given next rest held limit t =
    let gives = rw (c.in-Ok-Some.field-0-is, limit) at (c.in-Ok-Some.ensures.gives rest held) in
    asked_goes c.args.config.now limits given next c.args.method (rest ++ c.args.piece.now) _ c.in-Ok.asks t gives c.in-Ok.ensures

pub returns-in-Ok-None : goal.returns-in-Ok-None
returns-in-Ok-None c limits given next rest held limit t =
    let gives = rw (c.in-Ok-None.field-0-is, limit) at (c.in-Ok-None.ensures.gives rest held) in
    let part = rw c.in-Ok-None.field-0-is at (c.in-Ok-None.ensures.part rest held) in
    asking_goes c.args.config.now limits given next c.args.method (rest ++ c.args.piece.now) c.read_piece.new.frames c.new.result t gives c.new.ensures (part refl) (c.in-Ok-None.ensures.limit ∙ limit)

pub returns-in-Err : goal.returns-in-Err
returns-in-Err c limits given next rest held limit t =
    let gives = rw limit at (c.in-Err.ensures.gives rest held) in
    request_fault c.args.config.now limits given next c.args.method (rest ++ c.args.piece.now) c.in-Err.fault t gives
