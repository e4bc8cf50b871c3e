-- Numbers of new links after one more event.
use Rattle.std.proofs.Common.{◌≡◌, ℕ, ◌<◌, List, [], ◌∷◌, ◌++◌, max, refl, sym, subst, arith}
use Rattle.mesh_links.specs.Calls.{last_of_events}
use Rattle.mesh_links.specs.declared.call.LinkEvent.{LinkEvent}
use Rattle.mesh_links.specs.declared.call.LinkEvent.TheVariants as events
use Rattle.mio_edge.specs.Numbers.{Numbered}

-- behind a new link its number is the first
tail : (first last n : ℕ) (xs : List LinkEvent) → Numbered first last (events.New n ∷ xs) → Numbered n last xs
tail first last n xs h =
    let above : first < n = h.above.0 in
    let most : max first n ≡ n = omega arith in
    record { above = h.above.1; greatest = subst (λ m. last_of_events m xs ≡ last) most h.greatest }

before : (first last n : ℕ) (xs : List LinkEvent) → first < n → Numbered n last xs → Numbered first last (events.New n ∷ xs)
before first last n xs above h =
    let most : max first n ≡ n = omega arith in
    record { above = (above, h.above); greatest = subst (λ m. last_of_events m xs ≡ last) (sym most) h.greatest }

new_too : (first last n : ℕ) (xs : List LinkEvent) → last < n → Numbered first last xs → Numbered first n (xs ++ events.New n ∷ [])
new_too first last n [] more h =
    let above : first < n = subst (λ m. m < n) (sym h.greatest) more in
    before first n n [] above (record { above = tt; greatest = refl })
new_too first last n (events.New m ∷ xs) more h = before first n m (xs ++ events.New n ∷ []) h.above.0 (new_too m last n xs more (tail first last m xs h))
new_too first last n (events.Readable m ∷ xs) more h =
    let rest = new_too first last n xs more (record { above = h.above; greatest = h.greatest }) in
    record { above = rest.above; greatest = rest.greatest }
new_too first last n (events.Writable m ∷ xs) more h =
    let rest = new_too first last n xs more (record { above = h.above; greatest = h.greatest }) in
    record { above = rest.above; greatest = rest.greatest }

readable_too : (first last n : ℕ) (xs : List LinkEvent) → Numbered first last xs → Numbered first last (xs ++ events.Readable n ∷ [])
readable_too first last n [] h = record { above = tt; greatest = h.greatest }
readable_too first last n (events.New m ∷ xs) h = before first last m (xs ++ events.Readable n ∷ []) h.above.0 (readable_too m last n xs (tail first last m xs h))
readable_too first last n (events.Readable m ∷ xs) h =
    let rest = readable_too first last n xs (record { above = h.above; greatest = h.greatest }) in
    record { above = rest.above; greatest = rest.greatest }
readable_too first last n (events.Writable m ∷ xs) h =
    let rest = readable_too first last n xs (record { above = h.above; greatest = h.greatest }) in
    record { above = rest.above; greatest = rest.greatest }

writable_too : (first last n : ℕ) (xs : List LinkEvent) → Numbered first last xs → Numbered first last (xs ++ events.Writable n ∷ [])
writable_too first last n [] h = record { above = tt; greatest = h.greatest }
writable_too first last n (events.New m ∷ xs) h = before first last m (xs ++ events.Writable n ∷ []) h.above.0 (writable_too m last n xs (tail first last m xs h))
writable_too first last n (events.Readable m ∷ xs) h =
    let rest = writable_too first last n xs (record { above = h.above; greatest = h.greatest }) in
    record { above = rest.above; greatest = rest.greatest }
writable_too first last n (events.Writable m ∷ xs) h =
    let rest = writable_too first last n xs (record { above = h.above; greatest = h.greatest }) in
    record { above = rest.above; greatest = rest.greatest }

pub after_new : (first last n : ℕ) (xs ys : List LinkEvent) → ys ≡ xs ++ events.New n ∷ [] → last < n → Numbered first last xs → Numbered first n ys
after_new first last n xs ys e more h = subst (Numbered first n) (sym e) (new_too first last n xs more h)

pub after_readable : (first last n : ℕ) (xs ys : List LinkEvent) → ys ≡ xs ++ events.Readable n ∷ [] → Numbered first last xs → Numbered first last ys
after_readable first last n xs ys e h = subst (Numbered first last) (sym e) (readable_too first last n xs h)

pub after_writable : (first last n : ℕ) (xs ys : List LinkEvent) → ys ≡ xs ++ events.Writable n ∷ [] → Numbered first last xs → Numbered first last ys
after_writable first last n xs ys e h = subst (Numbered first last) (sym e) (writable_too first last n xs h)
