-- What the steps of a judgement say if it passes.
use Rattle.std.proofs.Common.{◌≡◌, Bool, true, false, Option, Some, None, Result, Ok, Err, refl, ap}
use Rattle.std.specs.Result.{result_ok}
use Rattle.cert_format.specs.JudgementForms.{◌>>=◌, unless, there}

pub bind_ok : {A B E : Type 0} (r : Result A E) (f : A → Result B E) (y : B) → (r >>= f) ≡ Ok y → (x : A) × (r ≡ Ok x) × (f x ≡ Ok y)
bind_ok (Ok x) f y e = (x, refl, e)
bind_ok (Err why) f y e = absurd (cc)

pub there_ok : {A E : Type 0} (o : Option A) (why : E) (x : A) → there o why ≡ Ok x → o ≡ Some x
there_ok None why x e = absurd (cc)
there_ok (Some y) why x e = ap result_ok e

pub unless_ok : {E : Type 0} (b : Bool) (why : E) → unless b why ≡ Ok tt → b ≡ true
unless_ok true why e = refl
unless_ok false why e = absurd (cc)
