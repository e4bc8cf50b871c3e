-- Networks read one after another.
use Rattle.std.proofs.Common.{◌≡◌, ℕ, List, [], ◌∷◌, ◌++◌, Option, Some, None, refl, ap, sym, ◌∙◌, append_assoc}
use Rattle.mesh_base.specs.Pieces.{pieces}
use Rattle.net_cidr.specs.Network.{net_of}
use Rattle.net_cidr.specs.declared.net.Net.{Net}
use Rattle.command_words.specs.Settings.{nets_of, nets_of_pieces, put}

-- the networks so far, and those that follow
abbrev pub joined : List Net → Option (List Net) → Option (List Net)
joined so_far (Some nets) = Some (so_far ++ nets)
joined so_far None = None

pub start_is : (o : Option (List Net)) → joined [] o ≡ o
start_is (Some nets) = refl
start_is None = refl

put_none : (o : Option (List Net)) → put None o ≡ None
put_none (Some nets) = refl
put_none None = refl

put_more : (so_far : List Net) (net : Net) (o : Option (List Net)) → joined so_far (put (Some net) o) ≡ joined (so_far ++ net ∷ []) o
put_more so_far net (Some nets) = ap (λ all. Some all) (sym (append_assoc so_far (net ∷ []) nets))
put_more so_far net None = refl

more : (text piece after : List ℕ) → pieces 44 text ≡ piece ∷ pieces 44 after → nets_of text ≡ put (net_of piece) (nets_of after)
unfolding nets_of
more text piece after e = ap nets_of_pieces e

last : (text : List ℕ) → pieces 44 text ≡ text ∷ [] → nets_of text ≡ put (net_of text) (Some [])
unfolding nets_of
last text e = ap nets_of_pieces e

pub loop_none : (so_far : List Net) (text piece after : List ℕ) → pieces 44 text ≡ piece ∷ pieces 44 after → net_of piece ≡ None → joined so_far (nets_of text) ≡ None
loop_none so_far text piece after e none = ap (joined so_far) (more text piece after e ∙ ap (λ net. put net (nets_of after)) none ∙ put_none (nets_of after))

pub loop_more : (so_far : List Net) (text piece after : List ℕ) (net : Net) → pieces 44 text ≡ piece ∷ pieces 44 after → net_of piece ≡ Some net → joined so_far (nets_of text) ≡ joined (so_far ++ net ∷ []) (nets_of after)
loop_more so_far text piece after net e is = ap (joined so_far) (more text piece after e ∙ ap (λ net. put net (nets_of after)) is) ∙ put_more so_far net (nets_of after)

pub last_none : (so_far : List Net) (text : List ℕ) → pieces 44 text ≡ text ∷ [] → net_of text ≡ None → joined so_far (nets_of text) ≡ None
last_none so_far text e none = ap (joined so_far) (last text e ∙ ap (λ net. put net (Some [])) none ∙ put_none (Some []))

pub last_some : (so_far : List Net) (text : List ℕ) (net : Net) → pieces 44 text ≡ text ∷ [] → net_of text ≡ Some net → joined so_far (nets_of text) ≡ Some (so_far ++ net ∷ [])
last_some so_far text net e is = ap (joined so_far) (last text e ∙ ap (λ net. put net (Some [])) is)
