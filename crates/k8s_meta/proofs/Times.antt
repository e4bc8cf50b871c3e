-- Comparing a text with a form byte by byte.
use Rattle.std.proofs.Common.{◌≡◌, ◌≢◌, ℕ, suc, ◌+◌, ◌<◌, ◌≤◌, ◌&&◌, true, false, List, [], ◌∷◌, length, drop, get_or, refl, ap, ◌∙◌}
use Rattle.std.proofs.lemmas.List.{drop_all, drop_more}
use Rattle.k8s_meta.specs.Metadata.{all_fit, fits}

no_and : (b : _) → false ≡ (b && false)
no_and true = refl
no_and false = refl

pub fits_other_length : (fs bs : List ℕ) → length fs ≢ length bs → false ≡ all_fit fs bs
fits_other_length [] [] ne = elim (ne refl) [ ]
fits_other_length [] (b ∷ bs) ne = refl
fits_other_length (f ∷ fs) [] ne = refl
fits_other_length (f ∷ fs) (b ∷ bs) ne = no_and (fits f b) ∙ ap (λ r. fits f b && r) (fits_other_length fs bs (λ e. ne (ap suc e)))

pub fits_next : (fs bs : List ℕ) (i : ℕ) → i < length fs → i < length bs → fits (get_or fs i 0) (get_or bs i 0) ≡ true → all_fit (drop i fs) (drop i bs) ≡ all_fit (drop (i + 1) fs) (drop (i + 1) bs)
fits_next fs bs i f b e = rw (drop_more fs i 0 f, drop_more bs i 0 b, e) refl

pub fits_not_here : (fs bs : List ℕ) (i : ℕ) → i < length fs → i < length bs → fits (get_or fs i 0) (get_or bs i 0) ≡ false → all_fit (drop i fs) (drop i bs) ≡ false
fits_not_here fs bs i f b e = rw (drop_more fs i 0 f, drop_more bs i 0 b, e) refl

pub fits_whole : (fs bs : List ℕ) (i : ℕ) → length fs ≤ i → length bs ≤ i → all_fit (drop i fs) (drop i bs) ≡ true
fits_whole fs bs i f b = rw (drop_all i fs f, drop_all i bs b) refl
