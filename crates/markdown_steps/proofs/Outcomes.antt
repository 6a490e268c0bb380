-- Laws of answers: of tests in their order, of what was given without why nothing was, and of steps one after the other.
use Rattle.std.proofs.Common.{◌≡◌, Bool, true, false, ◌&&◌, cond, List, [], ◌∷◌, Option, Some, None, Result, Ok, Err, refl, sym, ap, ◌∙◌}
use Rattle.std.specs.Option.{option_and_then}
use denote.Enum.Bare.{same_true, true_same}
use Rattle.markdown_events.specs.contracts.event.Name.{the_type}
use Rattle.markdown_events.specs.Names.{is_same_name}
use Rattle.markdown_events.specs.declared.event.Name.{Name}
use Rattle.markdown_events.specs.declared.event.Point.{Point}
use Rattle.markdown_events.proofs.Booleans.{and-both}
use Rattle.markdown_grammar.specs.Refusals.{ErrorAt}
use Rattle.markdown_steps.specs.Checks.{checked, passes, refused, ◌>>=◌}
use Rattle.markdown_grammar.specs.declared.error_kind.ErrorKind.{ErrorKind}

-- what a step gives
abbrev pub done : {A : Type 0} → A → Result A ErrorAt
done x = Ok x

-- what was given, without why nothing was
abbrev pub ok : {A : Type 0} → Result A ErrorAt → Option A
ok (Ok x) = Some x
ok (Err e) = None

abbrev pub when : {A : Type 0} → Bool → Option A → Option A
when true o = o
when false o = None

-- ---- Tests

pub one-check : {A : Type 0} (b q : Bool) (r x : Result A ErrorAt) (e : ErrorAt) → ok x ≡ when q (ok r) → ok (cond b x (Err e)) ≡ when (b && q) (ok r)
one-check true q r x e h = h
one-check false q r x e h = refl

pub ok-checked : {A : Type 0} (cs : List (Bool × ErrorKind)) (p : Point) (r : Result A ErrorAt) → ok (checked cs p r) ≡ when (passes cs) (ok r)
ok-checked [] p r = refl
ok-checked (c ∷ cs) p r = one-check c.0 (passes cs) r (checked cs p r) (record { error_kind = c.1; point = p }) (ok-checked cs p r)

-- ---- Without why nothing was given

pub ok-bind : {A B : Type 0} (r : Result A ErrorAt) (f : A → Result B ErrorAt) → ok (r >>= f) ≡ option_and_then (λ (x : A). ok (f x)) (ok r)
ok-bind (Ok x) f = refl
ok-bind (Err e) f = refl

pub then-same : {A B : Type 0} (o : Option A) (f g : A → Option B) → ((x : A) → f x ≡ g x) → option_and_then f o ≡ option_and_then g o
then-same None f g h = refl
then-same (Some x) f g h = h x

pub then-where : {A B : Type 0} (o : Option A) (f g : A → Option B) → ((x : A) → o ≡ Some x → f x ≡ g x) → option_and_then f o ≡ option_and_then g o
then-where None f g h = refl
then-where (Some x) f g h = h x refl

pub then-inv : {A B : Type 0} (o : Option A) (f : A → Option B) (y : B) → option_and_then f o ≡ Some y → (x : A) × (o ≡ Some x) × (f x ≡ Some y)
then-inv None f y h = absurd cc
then-inv (Some x) f y h = (x, refl, h)

pub then-then : {A B C : Type 0} (o : Option A) (f : A → Option B) (g : B → Option C) → option_and_then g (option_and_then f o) ≡ option_and_then (λ (x : A). option_and_then g (f x)) o
then-then None f g = refl
then-then (Some x) f g = refl

pub then-when : {A B : Type 0} (b : Bool) (o : Option A) (f : A → Option B) → option_and_then (λ (x : A). when b (f x)) o ≡ when b (option_and_then f o)
then-when true o f = refl
then-when false None f = refl
then-when false (Some x) f = refl

pub when-then : {A B : Type 0} (b : Bool) (o : Option A) (f : A → Option B) → option_and_then f (when b o) ≡ when b (option_and_then f o)
when-then true o f = refl
when-then false o f = refl

pub when-where : {A : Type 0} (b : Bool) (o p : Option A) → (b ≡ true → o ≡ p) → when b o ≡ when b p
when-where true o p h = h refl
when-where false o p h = refl

pub when-some : {A : Type 0} (b : Bool) (o : Option A) (y : A) → when b o ≡ Some y → (b ≡ true) × (o ≡ Some y)
when-some true o y h = (refl, h)
when-some false o y h = absurd cc

pub when-none : {A : Type 0} (b : Bool) → when {A = A} b None ≡ None
when-none true = refl
when-none false = refl

pub when-swap : {A : Type 0} (a b : Bool) (o : Option A) → when a (when b o) ≡ when b (when a o)
when-swap true b o = refl
when-swap false b o = sym (when-none b)

pub when-and : {A : Type 0} (a b c : Bool) (o : Option A) → when (a && true) (when b (when c o)) ≡ when (a && (b && c)) o
when-and true true c o = refl
when-and true false c o = refl
when-and false b c o = refl

pub when-when : {A : Type 0} (a b : Bool) (o : Option A) → when a (when b o) ≡ when (a && b) o
when-when true b o = refl
when-when false b o = refl

pub some_is : {A : Type 0} (x y : A) → ◌≡◌ {A = Option A} (Some x) (Some y) → x ≡ y
some_is x y e = cc

pub ok-inv : {A : Type 0} (r : Result A ErrorAt) (x : A) → ok r ≡ Some x → r ≡ Ok x
ok-inv (Ok y) x e = ap done (some_is y x e)
ok-inv (Err m) x e = absurd cc

pub when-inv : {A : Type 0} (b : Bool) (x y : A) → when b (Some x) ≡ Some y → (b ≡ true) × (x ≡ y)
when-inv true x y e = (refl, some_is x y e)
when-inv false x y e = absurd cc

-- ---- One after the other

pub same_name_is : (m n : Name) → is_same_name m n ≡ true → m ≡ n
same_name_is m n h = same_true the_type tt m n h

pub same_name_refl : (n : Name) → is_same_name n n ≡ true
same_name_refl n = true_same the_type n n refl

pub bind_same : {A B : Type 0} (r : Result A ErrorAt) (f g : A → Result B ErrorAt) → ((x : A) → f x ≡ g x) → (r >>= f) ≡ (r >>= g)
bind_same (Ok x) f g h = h x
bind_same (Err d) f g h = refl

pub bind_bind : {A B C : Type 0} (r : Result A ErrorAt) (f : A → Result B ErrorAt) (g : B → Result C ErrorAt) → ((r >>= f) >>= g) ≡ (r >>= λ x. f x >>= g)
bind_bind (Ok x) f g = refl
bind_bind (Err d) f g = refl

pub one_bind : {A B : Type 0} (b : Bool) (x : Result A ErrorAt) (y : Result B ErrorAt) (e : ErrorAt) (f : A → Result B ErrorAt) → (x >>= f) ≡ y → (cond b x (Err e) >>= f) ≡ cond b y (Err e)
one_bind true x y e f h = h
one_bind false x y e f h = refl

pub checked_bind : {A B : Type 0} (cs : List (Bool × ErrorKind)) (p : Point) (r : Result A ErrorAt) (f : A → Result B ErrorAt) → (checked cs p r >>= f) ≡ checked cs p (r >>= f)
checked_bind [] p r f = refl
checked_bind (c ∷ cs) p r f = one_bind c.0 (checked cs p r) (checked cs p (r >>= f)) (record { error_kind = c.1; point = p }) f (checked_bind cs p r f)

pub bind_ok : {A B : Type 0} (r : Result A ErrorAt) (f : A → Result B ErrorAt) (y : B) → (r >>= f) ≡ Ok y → (x : A) × (r ≡ Ok x) × (f x ≡ Ok y)
bind_ok (Ok x) f y e = (x, refl, e)
bind_ok (Err d) f y e = absurd cc

pub ok_is : {A : Type 0} (x y : A) → done x ≡ done y → x ≡ y
ok_is x y e = cc

pub one_ok : {A : Type 0} (b : Bool) (x : Result A ErrorAt) (y : A) (e : ErrorAt) → cond b x (Err e) ≡ Ok y → (b ≡ true) × (x ≡ Ok y)
one_ok true x y e h = (refl, h)
one_ok false x y e h = absurd cc

pub checked_ok : {A : Type 0} (cs : List (Bool × ErrorKind)) (p : Point) (r : Result A ErrorAt) (y : A) → checked cs p r ≡ Ok y → r ≡ Ok y
checked_ok [] p r y h = h
checked_ok (c ∷ cs) p r y h = checked_ok cs p r y (one_ok c.0 (checked cs p r) y (record { error_kind = c.1; point = p }) h).1

pub checked_passes : {A : Type 0} (cs : List (Bool × ErrorKind)) (p : Point) (r : Result A ErrorAt) (y : A) → checked cs p r ≡ Ok y → passes cs ≡ true
checked_passes [] p r y h = refl
checked_passes (c ∷ cs) p r y h =
    let g = one_ok c.0 (checked cs p r) y (record { error_kind = c.1; point = p }) h in
    and-both c.0 (passes cs) g.0 (checked_passes cs p r y g.1)

pub one_passing : {A : Type 0} (b passing : Bool) (x r : Result A ErrorAt) (e : ErrorAt) → (b && passing) ≡ true → (passing ≡ true → x ≡ r) → cond b x (Err e) ≡ r
one_passing true passing x r e h rest = rest h
one_passing false passing x r e h rest = absurd cc

pub passing_checked : {A : Type 0} (cs : List (Bool × ErrorKind)) (p : Point) (r : Result A ErrorAt) → passes cs ≡ true → checked cs p r ≡ r
passing_checked [] p r h = refl
passing_checked (c ∷ cs) p r h = one_passing c.0 (passes cs) (checked cs p r) r (record { error_kind = c.1; point = p }) h (λ rest. passing_checked cs p r rest)

-- ---- What is refused

pub err_clash : {A : Type 0} (r : Result A ErrorAt) (x : A) (why : ErrorAt) → r ≡ Ok x → r ≡ Err why → ⊥
err_clash r x why a b = let e : done x ≡ Err why = sym a ∙ b in absurd cc

pub err_is : {A : Type 0} (k m : ErrorAt) → ◌≡◌ {A = Result A ErrorAt} (Err k) (Err m) → k ≡ m
err_is k m e = cc

pub one_point : {A : Type 0} (b : Bool) (x : Result A ErrorAt) (why : ErrorKind) (p : Point) (m : ErrorAt) → (x ≡ Err m → m.point ≡ p) → cond b x (refused why p) ≡ Err m → m.point ≡ p
one_point true x why p m f h = f h
one_point false x why p m f h = ap (λ (k : ErrorAt). k.point) (sym (err_is {A = _} (record { error_kind = why; point = p }) m h))

pub checked_point : {A : Type 0} (cs : List (Bool × ErrorKind)) (p : Point) (r : Result A ErrorAt) (m : ErrorAt) → (r ≡ Err m → m.point ≡ p) → checked cs p r ≡ Err m → m.point ≡ p
checked_point [] p r m f h = f h
checked_point (c ∷ cs) p r m f h = one_point c.0 (checked cs p r) c.1 p m (checked_point cs p r m f) h

pub done_point : {A : Type 0} (x : A) (m : ErrorAt) (p : Point) → done x ≡ Err m → m.point ≡ p
done_point x m p h = absurd cc

pub bind_point : {A B : Type 0} (r : Result A ErrorAt) (f : A → B) (m : ErrorAt) (p : Point) → (r ≡ Err m → m.point ≡ p) → (r >>= λ x. done (f x)) ≡ Err m → m.point ≡ p
bind_point (Ok x) f m p g h = absurd cc
bind_point (Err k) f m p g h = g (ap (λ (j : ErrorAt). Err j) (err_is k m h))
