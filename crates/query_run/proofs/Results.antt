-- What holds of an answer, carried on.
use Rattle.std.proofs.Common.{◌≡◌, Result, Ok, Err, IfErr, IfOk, IsErrOf, IsOk, OnErr, OnOk}

pub both_ok : {A E : Type 0} (P Q : A → Type 0) (r : Result A E) → IfOk r P → IfOk r Q → IfOk r (λ x. P x × Q x)
both_ok P Q (Ok x) first second = (first, second)
both_ok P Q (Err e) first second = first

pub both_err : {A E : Type 0} (P Q : E → Type 0) (r : Result A E) → IfErr r P → IfErr r Q → IfErr r (λ e. P e × Q e)
both_err P Q (Ok x) first second = first
both_err P Q (Err e) first second = (first, second)

pub of_err : {A E : Type 0} {P : Type 0} {R : E → Type 0} → (r : Result A E) → (P → (e : E) → R e) → OnErr r P → IfErr r R
of_err (Ok x) more holds = holds
of_err (Err e) more holds = more holds e

pub at_err : {A E : Type 0} {P : Type 0} → (r : Result A E) → (e : E) → IsErrOf r e → OnErr r P → P
at_err (Ok x) e is holds = absurd (cc)
at_err (Err found) e is holds = holds

pub of_ok : {A E : Type 0} → (P : A → Type 0) → (r : Result A E) → (x : A) → r ≡ Ok x → IfOk r P → P x
of_ok P r x is holds = rw is at holds

pub of_done : {A E P : Type 0} → (r : Result A E) → (x : A) → r ≡ Ok x → OnOk r P → P
of_done r x is holds = rw is at holds

pub of_bad : {A E : Type 0} → (P : E → Type 0) → (r : Result A E) → (e : E) → r ≡ Err e → IfErr r P → P e
of_bad P r e is holds = rw is at holds

pub done_so : {A E : Type 0} {P R : A → Type 0} {T : Type 0} → (r : Result A E) → ((x : A) → P x → T → R x) → IfOk r P → OnOk r T → IfOk r R
done_so (Ok x) more holds also = more x holds also
done_so (Err e) more holds also = holds

pub done_both : {A E : Type 0} {P R : A → Type 0} {T U : Type 0} → (r : Result A E) → ((x : A) → P x → T → U → R x) → IfOk r P → OnOk r T → OnOk r U → IfOk r R
done_both (Ok x) more holds one two = more x holds one two
done_both (Err e) more holds one two = holds

pub at_ok : {A E P : Type 0} → (r : Result A E) → IsOk r → OnOk r P → P
at_ok (Ok x) is holds = holds
at_ok (Err e) is holds = absurd (cc)
