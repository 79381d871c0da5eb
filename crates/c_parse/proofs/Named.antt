-- What declarators and specifiers say, as the program has them.
use Rattle.std.proofs.Common.{◌≡◌, ap, sym, subst}
use Rattle.c_parse_spec.specs.Units.{is_typedef, name_of_declarator}
use Rattle.c_syntax.specs.declared.expression.Declarator.{Declarator, out-Declarator, roll-out-Declarator}
use Rattle.c_syntax.specs.declared.expression.Specifiers.{Specifiers, out-Specifiers, roll-out-Specifiers}
use Rattle.c_syntax.specs.Expressions.{declarator_of, specifiers_of}
use Rattle.c_syntax.proofs.Views.{Declarator-struct-view, Specifiers-struct-view}

pub declarator-name : (x : Declarator) → (out-Declarator x).name.spelling.now ≡ name_of_declarator (declarator_of x)
declarator-name x =
    let d = out-Declarator x in
    subst (λ z. d.name.spelling.now ≡ name_of_declarator (declarator_of z)) (roll-out-Declarator x) (sym (ap name_of_declarator (Declarator-struct-view d.pointers d.name d.dimensions)))

pub specifiers-typedef : (x : Specifiers) → (out-Specifiers x).storage.is_typedef ≡ is_typedef (specifiers_of x)
specifiers-typedef x =
    let s = out-Specifiers x in
    subst (λ z. s.storage.is_typedef ≡ is_typedef (specifiers_of z)) (roll-out-Specifiers x) (sym (ap is_typedef (Specifiers-struct-view s.storage s.base s.offset)))
