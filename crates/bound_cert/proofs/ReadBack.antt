-- Where reading goes well, each of its steps went well too.
use Rattle.bound_cert.specs.Lines.{◌>>=◌, Left, Reading, Stopped}
use Rattle.bound_cert.specs.Reading.{in_order}
use Rattle.std.proofs.Common.{◌≡◌, Bool, Err, Ok, cond, false, refl, true}
use Rattle.std.specs.Prelude.{⊤}

pub ok_same : {A : Type 0} (x y : A) → ◌≡◌ {A = Reading A} (Ok x) (Ok y) → x ≡ y
ok_same x y e = cc e

pub err_same : {A : Type 0} (d e : Stopped) → ◌≡◌ {A = Reading A} (Err d) (Err e) → d ≡ e
err_same d e same = cc same

-- a step went well, and what follows it
pub record Goes {A B : Type 0} (r : Reading A) (f : A → Reading B) (y : B) : Type 0 where
  pub value : A
  pub is : r ≡ Ok value
  pub on : f value ≡ Ok y

pub goes : {A B : Type 0} (r : Reading A) (f : A → Reading B) (y : B) → (r >>= f) ≡ Ok y → Goes r f y
goes (Ok x) f y e = record { value = x; is = refl; on = e }
goes (Err s) f y e = absurd (cc e)

pub ordered : (b : Bool) (left : Left) (x : ⊤) → in_order b left ≡ Ok x → b ≡ true
ordered true left x e = refl
ordered false left x e = absurd (cc e)

-- one of two ways went well
pub either_way : {A P : Type 0} (b : Bool) (x y : Reading A) (z : A) → cond b x y ≡ Ok z → (b ≡ true → x ≡ Ok z → P) → (b ≡ false → y ≡ Ok z → P) → P
either_way true x y z e first second = first refl e
either_way false x y z e first second = second refl e
