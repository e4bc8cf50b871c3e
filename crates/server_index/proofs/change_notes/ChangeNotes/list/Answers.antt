use Rattle.std.proofs.lemmas.Option.{IfSome_then}
use Rattle.server_index.proofs.change_notes.ChangeNotes.list.Goals as goal

pub returns : goal.returns
returns c = λ held hold. record {
  right = hold.right;
  listed = IfSome_then c.in_ok-self.field-0 c.in_ok-self.ensures (λ listed are. are held hold.right);
}
