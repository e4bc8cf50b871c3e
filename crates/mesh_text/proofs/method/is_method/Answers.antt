use Rattle.std.proofs.Common.{ℕ, List, Err, sym, ap, ◌∙◌, subst}
use Rattle.http.specs.Token.{IsToken}
use Rattle.mesh_text.proofs.Tokens.{apart, invalid, valid}
use Rattle.mesh_text.proofs.method.is_method.Goals as goal
use Rattle.mesh_text.proofs.method.is_method.Goals.{in-Ok, in-Err-Invalid, in-Err-OutOfMemory}

pub returns : goal.returns
returns c =
    let same = c.as_bytes.ensures.value in
    elim c.match-from_bytes.branch [
      | in-Ok w ↦ rw w.result-is (valid c.args.text.now (λ other. apart c.from_bytes.result _ _ w.in-Ok.is (c.from_bytes.ensures.invalid.1 (subst (λ (t : List ℕ). IsToken t → ⊥) (sym same) other))))
      | in-Err-Invalid w ↦ rw w.result-is (invalid c.args.text.now (subst (λ (t : List ℕ). IsToken t → ⊥) same (c.from_bytes.ensures.invalid.0 (w.in-Err-Invalid.is ∙ ap Err w.in-Err-Invalid.field-0-is))))
      | in-Err-OutOfMemory w ↦ rw w.result-is tt
    ]
