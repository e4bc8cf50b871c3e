-- The state of a fold after some rows, the newest first, and after its end.
use Rattle.std.specs.Prelude.{◌≡◌, ℕ, Bool, true, false, List, reverse}
use Rattle.std.specs.declared.option.Option.{Option}
use Rattle.mesh_base.specs.declared.limits.Limits.{Limits}
use Rattle.mesh_base.specs.declared.sub_id.SubId.{SubId}
use Rattle.line_run.specs.Rows.{Row}
use Rattle.view_types.specs.declared.query.Method.{Method}
use Rattle.view_types.specs.declared.view.View.{View}
use Rattle.view_rules.specs.Fold.{fold}
use Rattle.output_fold.specs.Folded.{bad_line, bad_rows, folded_in, messages_in, refused_in}

-- the same fold: its method, id and limits
pub record IsOfFold (method : Method) (id : SubId) (limits : Limits) (method_now : Method) (id_now : SubId) (limits_now : Limits) : Type 0 where
  pub same_method : method_now ≡ method
  pub same_id : id_now ≡ id
  pub same_limits : limits_now ≡ limits

-- While all rows can be read, the view is that of their messages.
abbrev pub ShowsIf : Bool → Option View → Option View → Type 0
ShowsIf true expected view = Unit {0}
ShowsIf false expected view = view ≡ expected

pub record Stands (method : Method) (id : ℕ) (failed : Bool) (view : Option View) (past : List Row) (text : List ℕ) (refused : Bool) : Type 0 where
  pub fails : failed ≡ refused_in method id (reverse past)
  pub shows : ShowsIf failed (fold (messages_in method id (reverse past))) view
  pub writes : text ≡ bad_line (bad_rows method id (reverse past))
  pub refuses : refused ≡ refused_in method id (reverse past)

pub record Ended (method : Method) (id : ℕ) (limits : Limits) (past : List Row) (text : List ℕ) (refused : Bool) : Type 0 where
  pub writes : text ≡ folded_in method id limits (reverse past)
  pub refuses : refused ≡ refused_in method id (reverse past)
