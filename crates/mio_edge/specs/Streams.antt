-- Which stream a call on a link concerns.
use Rattle.std.specs.Prelude.{◌≡◌, ◌<◌, ◌⊎◌, ℕ, List, length, slice_index_or, slice_set, Option, Ok}
use Rattle.std.specs.List.{HoldsAt, remove}
use Rattle.std.specs.Io.KnownBytes.{ReadConsumes, WriteAppends}
use Rattle.mesh_links.specs.declared.links.LinkFault.{LinkFault}
use Rattle.mio_edge.specs.declared.open_links.OpenLink.{OpenLink}

module _ {S : Type 0} where
  -- Of the links, the one with the number has taken the step with its stream, and all others are as before.
  pub record Concerns (link : ℕ) (Step : S → S → Type 0) (before after : List (OpenLink S)) : Type 0 where
    pub place : ℕ
    pub old : OpenLink S
    pub new : OpenLink S
    pub within : place < length before
    pub stood : slice_index_or before place old ≡ old
    pub number : old.number ≡ link
    pub same_number : new.number ≡ link
    pub others : after ≡ slice_set before place new
    pub step : Step old.stream new.stream

  -- A read of n bytes has taken them from what the stream of the link has left, where that is known.
  abbrev pub Reads : ℕ → (S → Option (List ℕ)) → ℕ → List ℕ → List (OpenLink S) → List (OpenLink S) → Type 0
  Reads link remaining n buf =
      Concerns link (λ old new. ReadConsumes {E = LinkFault} (remaining old) (remaining new) (Ok n) buf)

  -- A write of n bytes has added the first n of the piece to what the stream of the link holds, where that is known.
  abbrev pub Writes : ℕ → (S → Option (List ℕ)) → ℕ → List ℕ → List (OpenLink S) → List (OpenLink S) → Type 0
  Writes link contents n piece =
      Concerns link (λ old new. WriteAppends {E = LinkFault} (contents old) (contents new) (Ok n) piece)

  -- Of the links, the one with the number is gone, or none is.
  abbrev pub Closes : ℕ → List (OpenLink S) → List (OpenLink S) → Type 0
  Closes link before after =
      (after ≡ before)
      ⊎ ((place : ℕ) × (place < length before) × HoldsAt (λ one. one.number ≡ link) before place × (after ≡ remove before place))
