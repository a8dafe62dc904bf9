-- A solver for equations of whole numbers by reflection: an expression over variables is brought to a sum of terms,
-- and `solve` proves two expressions equal whose difference has no term left.
use Rattle.std.proofs.Common.{◌≡◌, ℕ, zero, suc, Bool, true, false, T, eqb, ltb, List, [], ◌∷◌, ℤ, pos, negsuc, ◌+ℤ◌, ◌*ℤ◌, neg_ℤ, sym, refl, ap, ◌∙◌, arith, eqb→eq}
use lib.IntN.{*ℤ_comm, zero-*ℤ, *ℤ-zero, +ℤ_idl, +ℤ_idr}
use Rattle.rules.proofs.Integers.{lin, mul_ℤ_distl, mul_ℤ_distr, mul_ℤ_assoc, one_mul_ℤ, neg_ℤ_mul}

-- expressions, and what they are worth where the variables stand for the numbers of a list
infixl 6 ◌⊕◌ ◌⊖◌
infixl 7 ◌⊗◌
pub data Ex : Type 0 where
  var : ℕ → Ex
  lit : ℤ → Ex
  ◌⊕◌ : Ex → Ex → Ex
  ◌⊗◌ : Ex → Ex → Ex
  neg : Ex → Ex

abbrev pub ◌⊖◌ : Ex → Ex → Ex
a ⊖ b = a ⊕ neg b

abbrev pub look : List ℤ → ℕ → ℤ
look [] n = pos 0
look (x ∷ xs) zero = x
look (x ∷ xs) (suc n) = look xs n

abbrev pub eval : List ℤ → Ex → ℤ
eval r (var i) = look r i
eval r (lit c) = c
eval r (a ⊕ b) = eval r a +ℤ eval r b
eval r (a ⊗ b) = eval r a *ℤ eval r b
eval r (neg a) = neg_ℤ (eval r a)

-- sums of terms: each a number times some variables, in order
pub data Poly : Type 0 where
  nil : Poly
  term : ℤ → List ℕ → Poly → Poly

abbrev pub eval_m : List ℤ → List ℕ → ℤ
eval_m r [] = pos 1
eval_m r (i ∷ m) = look r i *ℤ eval_m r m

abbrev pub eval_p : List ℤ → Poly → ℤ
eval_p r nil = pos 0
eval_p r (term c m q) = c *ℤ eval_m r m +ℤ eval_p r q

abbrev pub ins_m : ℕ → List ℕ → List ℕ
ins_m i [] = i ∷ []
ins_m i (j ∷ m) = elim (ltb j i) [ true ↦ j ∷ ins_m i m | false ↦ i ∷ j ∷ m ]

abbrev pub mul_m : List ℕ → List ℕ → List ℕ
mul_m [] n = n
mul_m (i ∷ m) n = ins_m i (mul_m m n)

abbrev pub eq_m : List ℕ → List ℕ → Bool
eq_m [] [] = true
eq_m [] (j ∷ n) = false
eq_m (i ∷ m) [] = false
eq_m (i ∷ m) (j ∷ n) = elim (eqb i j) [ true ↦ eq_m m n | false ↦ false ]

-- a term is put to the one with the same variables
abbrev pub ins_t : ℤ → List ℕ → Poly → Poly
ins_t c m nil = term c m nil
ins_t c m (term d n q) = elim (eq_m m n) [ true ↦ term (c +ℤ d) n q | false ↦ term d n (ins_t c m q) ]

abbrev pub add_p : Poly → Poly → Poly
add_p nil q = q
add_p (term c m p) q = ins_t c m (add_p p q)

abbrev pub mul_t : ℤ → List ℕ → Poly → Poly
mul_t c m nil = nil
mul_t c m (term d n q) = ins_t (c *ℤ d) (mul_m m n) (mul_t c m q)

abbrev pub mul_p : Poly → Poly → Poly
mul_p nil q = nil
mul_p (term c m p) q = add_p (mul_t c m q) (mul_p p q)

abbrev pub norm : Ex → Poly
norm (var i) = term (pos 1) (i ∷ []) nil
norm (lit c) = term c [] nil
norm (a ⊕ b) = add_p (norm a) (norm b)
norm (a ⊗ b) = mul_p (norm a) (norm b)
norm (neg a) = mul_t (negsuc 0) [] (norm a)

-- all that is left is 0
abbrev pub zero_p : Poly → Bool
zero_p nil = true
zero_p (term (pos zero) m p) = zero_p p
zero_p (term (pos (suc c)) m p) = false
zero_p (term (negsuc c) m p) = false

eq_m_eq : (m n : List ℕ) → T (eq_m m n) → m ≡ n
eq_m_eq [] [] t = refl
eq_m_eq [] (j ∷ n) t = absurd t
eq_m_eq (i ∷ m) [] t = absurd t
eq_m_eq (i ∷ m) (j ∷ n) t = by (eqb i j) (eqb→eq i j) (eq_m_eq m n) t
  where
    by : (b : Bool) → (T b → i ≡ j) → (T (eq_m m n) → m ≡ n) → T (elim b [ true ↦ eq_m m n | false ↦ false ]) → i ∷ m ≡ j ∷ n
    by true e f t = λ z. e tt z ∷ f t z
    by false e f t = absurd t

turn3 : (a b c : ℤ) → a *ℤ (b *ℤ c) ≡ b *ℤ (a *ℤ c)
turn3 a b c = sym (mul_ℤ_assoc a b c) ∙ ap (λ (w : ℤ). w *ℤ c) (*ℤ_comm a b) ∙ mul_ℤ_assoc b a c

four : (a b c d : ℤ) → (a *ℤ b) *ℤ (c *ℤ d) ≡ (a *ℤ c) *ℤ (b *ℤ d)
four a b c d = mul_ℤ_assoc a b (c *ℤ d) ∙ ap (λ (w : ℤ). a *ℤ w) (turn3 b c d) ∙ sym (mul_ℤ_assoc a c (b *ℤ d))

module _ (r : List ℤ) where
  ins_m_is : (i : ℕ) (m : List ℕ) → eval_m r (ins_m i m) ≡ look r i *ℤ eval_m r m
  ins_m_is i [] = refl
  ins_m_is i (j ∷ m) = by (ltb j i) (ins_m_is i m)
    where
      by : (b : Bool) → eval_m r (ins_m i m) ≡ look r i *ℤ eval_m r m
          → eval_m r (elim b [ true ↦ j ∷ ins_m i m | false ↦ i ∷ j ∷ m ]) ≡ look r i *ℤ (look r j *ℤ eval_m r m)
      by true e = ap (λ (w : ℤ). look r j *ℤ w) e ∙ turn3 (look r j) (look r i) (eval_m r m)
      by false e = refl

  mul_m_is : (m n : List ℕ) → eval_m r (mul_m m n) ≡ eval_m r m *ℤ eval_m r n
  mul_m_is [] n = sym (one_mul_ℤ (eval_m r n))
  mul_m_is (i ∷ m) n = ins_m_is i (mul_m m n) ∙ ap (λ (w : ℤ). look r i *ℤ w) (mul_m_is m n) ∙ sym (mul_ℤ_assoc (look r i) (eval_m r m) (eval_m r n))

  ins_t_is : (c : ℤ) (m : List ℕ) (q : Poly) → eval_p r (ins_t c m q) ≡ c *ℤ eval_m r m +ℤ eval_p r q
  ins_t_is c m nil = refl
  ins_t_is c m (term d n q) = by (eq_m m n) (eq_m_eq m n) (ins_t_is c m q)
    where
      by : (b : Bool) → (T b → m ≡ n) → eval_p r (ins_t c m q) ≡ c *ℤ eval_m r m +ℤ eval_p r q
          → eval_p r (elim b [ true ↦ term (c +ℤ d) n q | false ↦ term d n (ins_t c m q) ]) ≡ c *ℤ eval_m r m +ℤ (d *ℤ eval_m r n +ℤ eval_p r q)
      by true e ih = rw (e tt) (omega (arith, lin, mul_ℤ_distr c d (eval_m r n)))
      by false e ih = omega (arith, lin)

  add_p_is : (p q : Poly) → eval_p r (add_p p q) ≡ eval_p r p +ℤ eval_p r q
  add_p_is nil q = sym (+ℤ_idl (eval_p r q))
  add_p_is (term c m p) q = omega (arith, lin, ins_t_is c m (add_p p q), add_p_is p q)

  mul_t_is : (c : ℤ) (m : List ℕ) (q : Poly) → eval_p r (mul_t c m q) ≡ (c *ℤ eval_m r m) *ℤ eval_p r q
  mul_t_is c m nil = sym (*ℤ-zero (c *ℤ eval_m r m))
  mul_t_is c m (term d n q) =
      ins_t_is (c *ℤ d) (mul_m m n) (mul_t c m q)
      ∙ (λ i. (c *ℤ d) *ℤ mul_m_is m n i +ℤ mul_t_is c m q i)
      ∙ ap (λ (w : ℤ). w +ℤ (c *ℤ eval_m r m) *ℤ eval_p r q) (four c d (eval_m r m) (eval_m r n))
      ∙ sym (mul_ℤ_distl (c *ℤ eval_m r m) (d *ℤ eval_m r n) (eval_p r q))

  mul_p_is : (p q : Poly) → eval_p r (mul_p p q) ≡ eval_p r p *ℤ eval_p r q
  mul_p_is nil q = sym (zero-*ℤ (eval_p r q))
  mul_p_is (term c m p) q = add_p_is (mul_t c m q) (mul_p p q) ∙ (λ i. mul_t_is c m q i +ℤ mul_p_is p q i) ∙ sym (mul_ℤ_distr (c *ℤ eval_m r m) (eval_p r p) (eval_p r q))

  by_one : (a : ℤ) → a *ℤ pos 1 ≡ a
  by_one a = *ℤ_comm a (pos 1) ∙ one_mul_ℤ a

  norm_is : (e : Ex) → eval_p r (norm e) ≡ eval r e
  norm_is (var i) = +ℤ_idr (pos 1 *ℤ (look r i *ℤ pos 1)) ∙ one_mul_ℤ (look r i *ℤ pos 1) ∙ by_one (look r i)
  norm_is (lit c) = +ℤ_idr (c *ℤ pos 1) ∙ by_one c
  norm_is (a ⊕ b) = add_p_is (norm a) (norm b) ∙ (λ i. norm_is a i +ℤ norm_is b i)
  norm_is (a ⊗ b) = mul_p_is (norm a) (norm b) ∙ (λ i. norm_is a i *ℤ norm_is b i)
  norm_is (neg a) = mul_t_is (negsuc 0) [] (norm a) ∙ neg_ℤ_mul (pos 1) (eval_p r (norm a)) ∙ ap neg_ℤ (one_mul_ℤ (eval_p r (norm a)) ∙ norm_is a)

  zero_p_is : (p : Poly) → T (zero_p p) → eval_p r p ≡ pos 0
  zero_p_is nil t = refl
  zero_p_is (term (pos zero) m p) t = λ i. zero-*ℤ (eval_m r m) i +ℤ zero_p_is p t i
  zero_p_is (term (pos (suc c)) m p) t = absurd t
  zero_p_is (term (negsuc c) m p) t = absurd t

  -- `solve (a ∷ b ∷ []) e f tt`, with e and f over var 0 for a and var 1 for b
  pub solve : (e f : Ex) → T (zero_p (norm (e ⊖ f))) → eval r e ≡ eval r f
  solve e f t = apart (eval r e) (eval r f) (sym (norm_is (e ⊖ f)) ∙ zero_p_is (norm (e ⊖ f)) t)
    where
      apart : (a b : ℤ) → a +ℤ neg_ℤ b ≡ pos 0 → a ≡ b
      apart a b e = omega (arith, lin)
