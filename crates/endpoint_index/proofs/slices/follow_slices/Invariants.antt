use Rattle.std.proofs.Common.{◌≡◌, ◌+◌, ◌≤◌, take}
use Rattle.std.specs.List.{sum_by}
use Rattle.std.specs.Option.{option_copied}
use Rattle.mesh_base.specs.declared.key.ObjKey.{ObjKey}
use Rattle.view_rules.specs.Endpoints.{first_rows}
use Rattle.endpoint_rows.specs.Kept.{Keeps, rows_of}
use Rattle.slice_marks.specs.Marked.{Agree, OthersStay, marks_at}
use Rattle.endpoint_index.specs.Given.{given_at, pods_at, steps_of}
use Rattle.endpoint_index.proofs.Filling.{ArePut}
use Rattle.endpoint_index.proofs.slices.follow_slices.Given as goal

-- the slices at the keys so far are brought up
abbrev pub invariant-loop-at : goal.invariant-loop-at
invariant-loop-at g l = record {
  keeps : Keeps l.initial.kept.rows → Keeps l.kept.rows;
  rows : ArePut (λ k. first_rows (given_at l.source.from.now.config.now l.source.from.now.store.now.objects l.source.key.now (option_copied l.source.port.name) k)) (rows_of l.initial.kept.rows.slices.by_slice)
      (take l.at-index l.touched) (rows_of l.kept.rows.slices.by_slice);
  view : l.kept.rows.view ≡ l.initial.kept.rows.view;
  agree : Agree l.initial.kept.read → Agree l.kept.read;
  pods : ArePut (pods_at l.source.from.now.store.now.objects l.source.key.now) (marks_at l.initial.kept.read.by_slice) (take l.at-index l.touched) (marks_at l.kept.read.by_slice);
  moved : OthersStay l.moved l.initial.kept.read.by_mark l.kept.read.by_mark;
  steps : l.steps ≤ l.initial.steps + sum_by (steps_of l.source.from.now.store.now.objects l.source.key.now) (take l.at-index l.touched);
}
