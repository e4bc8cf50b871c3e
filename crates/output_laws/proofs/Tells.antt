-- Texts that end their lines, and the messages that their lines tell who reads the frames of an id.
use Rattle.std.proofs.Common.{◌≡◌, ℕ, ◌+◌, ◌≤◌, List, [], ◌∷◌, ◌++◌, length, map, Option, Some, refl, sym, ap, ◌∙◌, subst, append_assoc, append-nil}
use Rattle.std.specs.Prelude.{Ok}
use Rattle.std.specs.List.{AllByRecursion, cons_option, enumerate_from, filter_map}
use Rattle.std.proofs.lemmas.Bool.{le-leb}
use Rattle.std.proofs.lemmas.List.Elements.{filter_map-append}
use Rattle.line_run.specs.Rows.{NoBreak, Row, lines_of, row_of}
use Rattle.line_run.proofs.Cut.{lines_of-break}
use Rattle.mesh_base.specs.declared.limits.Limits.{Limits}
use Rattle.feed_history.proofs.Lists.{all_joined}
use Rattle.view_rules.specs.Fold.{fold}
use Rattle.view_types.specs.declared.message.Message.{Message}
use Rattle.view_types.specs.declared.query.Method.{Method}
use Rattle.output_fold.specs.Folded.{fault_at, fault_told, folded_in, folded_of, message_told, messages_in, text_of, view_lines}
use Rattle.output_fold.specs.Lines.{Told, row_says}
use Rattle.output_fold.specs.declared.fault.FoldFault.{FoldFault}
use Rattle.output_laws.specs.Agreement.{LinesAreWithin}

module _ (method : Method) (id : ℕ) where
  -- what a line tells, if it reads
  abbrev pub told_of : List ℕ → Option Message
  told_of line = message_told (row_says method id (Some line))

  abbrev pub Reads : List ℕ → Type 0
  Reads line = (told : Option Message) × (row_says method id (Some line) ≡ Ok told)

  pub record Tells (text : List ℕ) (messages : List Message) : Type 0 where
    pub lines : List (List ℕ)
    pub cut : (more : List ℕ) → lines_of (text ++ more) ≡ lines ++ lines_of more
    pub reads : AllByRecursion Reads lines
    pub told : filter_map told_of lines ≡ messages

  pub tells_none : Tells [] []
  tells_none = record { lines = []; cut = λ more. refl; reads = tt; told = refl }

  pub tells_both : (text other : List ℕ) (messages more : List Message) → Tells text messages → Tells other more → Tells (text ++ other) (messages ++ more)
  tells_both text other messages more first second = record {
    lines = first.lines ++ second.lines;
    cut = λ rest. ap lines_of (append_assoc text other rest) ∙ first.cut (other ++ rest)
        ∙ ap (λ (lines : List (List ℕ)). first.lines ++ lines) (second.cut rest) ∙ sym (append_assoc first.lines second.lines (lines_of rest));
    reads = all_joined Reads first.lines second.lines first.reads second.reads;
    told = filter_map-append told_of first.lines second.lines ∙ ap (λ (ms : List Message). ms ++ filter_map told_of second.lines) first.told ∙ ap (λ (ms : List Message). messages ++ ms) second.told;
  }

  pub tells_line : (line : List ℕ) (told : Option Message) → NoBreak line → row_says method id (Some line) ≡ Ok told → Tells (line ++ 10 ∷ []) (cons_option told [])
  tells_line line told none says = record {
    lines = line ∷ [];
    cut = λ more. ap lines_of (append_assoc line (10 ∷ []) more) ∙ lines_of-break line more none;
    reads = ((told, says), tt);
    told = ap (λ (t : Told). cons_option (message_told t) []) says;
  }

  -- ---- all rows of a text

  module _ (limit : ℕ) where
    within : (line : List ℕ) → length line ≤ limit → row_of limit line ≡ Some line
    within line short = rw (le-leb (length line) limit short) refl

    pub none_bad : (n : ℕ) (lines : List (List ℕ)) → AllByRecursion Reads lines → AllByRecursion (λ (line : List ℕ). length line ≤ limit) lines
        → filter_map (fault_at method id) (enumerate_from n (map (row_of limit) lines)) ≡ []
    none_bad n [] reads short = refl
    none_bad n (line ∷ lines) reads short =
        ap (λ (t : Told). cons_option (fault_told n t) (filter_map (fault_at method id) (enumerate_from (n + 1) (map (row_of limit) lines))))
        (ap (row_says method id) (within line short.0) ∙ reads.0.1)
        ∙ none_bad (n + 1) lines reads.1 short.1

    pub all_told : (lines : List (List ℕ)) → AllByRecursion (λ (line : List ℕ). length line ≤ limit) lines → messages_in method id (map (row_of limit) lines) ≡ filter_map told_of lines
    all_told [] short = refl
    all_told (line ∷ lines) short =
        ap (λ (row : Row). cons_option (message_told (row_says method id row)) (messages_in method id (map (row_of limit) lines))) (within line short.0)
        ∙ ap (cons_option (told_of line)) (all_told lines short.1)

-- what is written of a text all of whose lines read: the view of its messages
pub folds : (method : Method) (id : ℕ) (limits : Limits) (text : List ℕ) (messages : List Message) → Tells method id text messages → LinesAreWithin limits.line text
    → folded_of method id limits text ≡ view_lines id limits (fold messages)
folds method id limits text messages tells within =
    let lines : lines_of text ≡ tells.lines = ap lines_of (sym (append-nil text)) ∙ tells.cut [] ∙ append-nil tells.lines in
    let short = subst (AllByRecursion (λ (line : List ℕ). length line ≤ limits.line)) lines within in
    ap (λ (ls : List (List ℕ)). folded_in method id limits (map (row_of limits.line) ls)) lines
    ∙ ap (λ (bads : List (ℕ × FoldFault)). text_of id limits bads (messages_in method id (map (row_of limits.line) tells.lines))) (none_bad method id limits.line 1 tells.lines tells.reads short)
    ∙ ap (λ (ms : List Message). view_lines id limits (fold ms)) (all_told method id limits.line tells.lines short ∙ tells.told)
