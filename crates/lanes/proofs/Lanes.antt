-- Lists of fragments that are cut in two, and what was done at both parts.
use Rattle.std.proofs.Common.{◌≡◌, ◌≤◌, ◌<◌, ◌+◌, ◌-◌, ℕ, List, ◌++◌, length, length-append, slice_index_or, arith, refl, ⊎_elim}
use Rattle.std.proofs.lemmas.Bool.{cases_lt}
use Rattle.std.proofs.Math.ListN.{get_or-append}
use Rattle.std.proofs.lemmas.List.{get_or-append_right}
use Rattle.lanes.specs.Lanes.{DidAll, MayAll}

module _ {P F C : Type 0} where
  front_of : (may : P → F → C → Type 0) (a b : List P) (fa fb : List F) (ca cb : List C) → length fa ≡ length a → length ca ≡ length a
      → MayAll may (a ++ b) (fa ++ fb) (ca ++ cb) → MayAll may a fa ca
  front_of may a b fa fb ca cb ef ec all = record {
    ops_len = ef;
    besides_len = ec;
    each = λ k p f c below.
        let here = all.each k p f c (omega (arith, length-append a b)) in
        let inf : k < length fa = omega arith in
        let inc : k < length ca = omega arith in
        rw (get_or-append a b p k below, get_or-append fa fb f k inf, get_or-append ca cb c k inc) at here;
  }

  back_of : (may : P → F → C → Type 0) (a b : List P) (fa fb : List F) (ca cb : List C) → length fa ≡ length a → length ca ≡ length a
      → MayAll may (a ++ b) (fa ++ fb) (ca ++ cb) → MayAll may b fb cb
  back_of may a b fa fb ca cb ef ec all = record {
    ops_len = (let e = all.ops_len in omega (arith, length-append a b, length-append fa fb));
    besides_len = (let e = all.besides_len in omega (arith, length-append a b, length-append ca cb));
    each = λ k p f c below.
        let here = all.each (length a + k) p f c (omega (arith, length-append a b)) in
        let k' : length a + k - length a ≡ k = omega arith in
        rw (get_or-append_right a b (length a) (length a + k) p refl (omega arith), get_or-append_right fa fb (length a) (length a + k) f ef (omega arith), get_or-append_right ca cb (length a) (length a + k) c ec (omega arith), k') at here;
  }

  both_of : (did : P → F → C → P → F → C → Type 0) (a b a' b' : List P) (fa fb fa' fb' : List F) (ca cb ca' cb' : List C) → length fa ≡ length a → length ca ≡ length a
      → DidAll did a fa ca a' fa' ca' → DidAll did b fb cb b' fb' cb' → DidAll did (a ++ b) (fa ++ fb) (ca ++ cb) (a' ++ b') (fa' ++ fb') (ca' ++ cb')
  both_of did a b a' b' fa fb fa' fb' ca cb ca' cb' ef ec front back =
      let p1 = front.places_len in let p2 = back.places_len in
      let o1 = front.ops_len in let o2 = back.ops_len in
      let b1 = front.besides_len in let b2 = back.besides_len in
      record {
        places_len = omega (arith, length-append a b, length-append a' b');
        ops_len = omega (arith, length-append a b, length-append fa' fb');
        besides_len = omega (arith, length-append a b, length-append ca' cb');
        each = λ k p f c below. ⊎_elim
            (λ (low : k < length a).
            let here = front.each k p f c low in
            let i1 : k < length fa = omega arith in let i2 : k < length ca = omega arith in
            let i3 : k < length a' = omega arith in let i4 : k < length fa' = omega arith in let i5 : k < length ca' = omega arith in
            rw (get_or-append a b p k low, get_or-append fa fb f k i1, get_or-append ca cb c k i2, get_or-append a' b' p k i3, get_or-append fa' fb' f k i4, get_or-append ca' cb' c k i5) here)
            (λ (high : length a ≤ k).
            let here = back.each (k - length a) p f c (omega (arith, length-append a b)) in
            rw (
              get_or-append_right a b (length a) k p refl high,
              get_or-append_right fa fb (length a) k f ef high,
              get_or-append_right ca cb (length a) k c ec high,
              get_or-append_right a' b' (length a) k p p1 high,
              get_or-append_right fa' fb' (length a) k f o1 high,
              get_or-append_right ca' cb' (length a) k c b1 high,
            ) here)
            (cases_lt k (length a));
      }

  pub may_front : (may : P → F → C → Type 0) (ps a b : List P) (fs fa fb : List F) (cs ca cb : List C) → ps ≡ a ++ b → fs ≡ fa ++ fb → cs ≡ ca ++ cb
      → length fa ≡ length a → length ca ≡ length a → MayAll may ps fs cs → MayAll may a fa ca
  may_front may ps a b fs fa fb cs ca cb p f c ef ec all = front_of may a b fa fb ca cb ef ec (rw (p, f, c) at all)

  pub may_back : (may : P → F → C → Type 0) (ps a b : List P) (fs fa fb : List F) (cs ca cb : List C) → ps ≡ a ++ b → fs ≡ fa ++ fb → cs ≡ ca ++ cb
      → length fa ≡ length a → length ca ≡ length a → MayAll may ps fs cs → MayAll may b fb cb
  may_back may ps a b fs fa fb cs ca cb p f c ef ec all = back_of may a b fa fb ca cb ef ec (rw (p, f, c) at all)

  pub did_both : (did : P → F → C → P → F → C → Type 0) (ps ps' a b a' b' : List P) (fs fs' fa fb fa' fb' : List F) (cs cs' ca cb ca' cb' : List C)
      → ps ≡ a ++ b → fs ≡ fa ++ fb → cs ≡ ca ++ cb → ps' ≡ a' ++ b' → fs' ≡ fa' ++ fb' → cs' ≡ ca' ++ cb'
      → length fa ≡ length a → length ca ≡ length a
      → DidAll did a fa ca a' fa' ca' → DidAll did b fb cb b' fb' cb' → DidAll did ps fs cs ps' fs' cs'
  did_both did ps ps' a b a' b' fs fs' fa fb fa' fb' cs cs' ca cb ca' cb' p f c p' f' c' ef ec front back =
      rw (p, f, c, p', f', c') (both_of did a b a' b' fa fb fa' fb' ca cb ca' cb' ef ec front back)
