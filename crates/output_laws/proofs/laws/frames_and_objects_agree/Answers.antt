use Rattle.feed_history.specs.Program.{replay_of}
use Rattle.output_laws.proofs.Agree.{fold_agrees}
use Rattle.output_laws.proofs.Ids.{replay_ids}
use Rattle.output_laws.proofs.PlainLines.{row_plain}
use Rattle.output_laws.proofs.laws.frames_and_objects_agree.Goals as goal

pub returns : goal.returns
returns c config limits pat =
    let program = replay_of config limits pat in
    let reads = c.replays_read_lawfully.ensures config limits pat in
    fold_agrees program (c.at_the_end_it_folds_to_the_view.ensures program) (c.messages_read_back.ensures program reads) (c.messages_are_sendable.ensures program reads)
    (c.held_are_lawful.ensures program reads) (c.held_at_their_keys.ensures program) (replay_ids config limits pat) (λ held row. row_plain config row.0)
