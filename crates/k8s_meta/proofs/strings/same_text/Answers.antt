use Rattle.std.proofs.Common.{refl}
use Rattle.std.proofs.lemmas.Str.{is_utf8-from_IsUtf8}
use Rattle.k8s_meta.proofs.strings.same_text.Goals as goal

pub returns : goal.returns
returns c = rw (is_utf8-from_IsUtf8 c.args.text.now c.utf8.text) refl
