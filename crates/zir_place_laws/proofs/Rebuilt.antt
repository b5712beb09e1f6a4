-- Each form is spelled by its tokens at any other places, and is the same then, places apart.
use Rattle.std.proofs.Common.{◌≡◌, ℕ, pos, true, false, suc, List, [], ◌∷◌, ◌++◌, Option, Some, None, refl, sym, ap, ap₂, ◌∙◌, subst}
use Rattle.std.specs.Prelude.{map}
use Rattle.zir_tree.specs.declared.place.Place.{Place}
use Rattle.zir_tree.specs.declared.ident.Ident.{Ident}
use Rattle.zir_tree.specs.declared.types.Base.TheVariants as base
use Rattle.zir_tree.specs.declared.types.TypeExpr.{TypeExpr}
use Rattle.zir_tree.specs.declared.types.Field.{Field}
use Rattle.zir_tree.specs.declared.expr.Prefix.{Prefix}
use Rattle.zir_tree.specs.declared.expr.Prefix.TheVariants as prefix
use Rattle.zir_tree.specs.declared.expr.Callee.TheVariants as callee
use Rattle.zir_tree.specs.declared.expr.Expr.{Expr}
use Rattle.zir_tree.specs.declared.expr.Expr as expr
use Rattle.zir_tree.specs.declared.stmt.Var.{Var}
use Rattle.zir_tree.specs.declared.stmt.Access.{Access}
use Rattle.zir_tree.specs.declared.stmt.Access.TheVariants as access
use Rattle.zir_tree.specs.declared.stmt.Stmt.{Stmt}
use Rattle.zir_tree.specs.declared.stmt.Stmt as stmt
use Rattle.zir_tree.specs.declared.stmt.Body.{Body}
use Rattle.zir_tree.specs.declared.comp.Turning.TheVariants as turning
use Rattle.zir_tree.specs.declared.comp.Comp.{Comp}
use Rattle.zir_tree.specs.declared.comp.Comp as comp
use Rattle.zir_tree.specs.declared.comp.Member.{Member}
use Rattle.zir_tree.specs.declared.comp.Member as member
use Rattle.zir_tree.specs.declared.program.Decl.{Decl}
use Rattle.zir_tree.specs.declared.program.Decl.TheVariants as decl
use Rattle.zir_tree.specs.declared.program.Prog.{Prog}
use Rattle.zir_lex.specs.declared.token.Token.{Token}
use Rattle.zir_lex.specs.declared.token.Lexeme.{Lexeme}
use Rattle.zir_lex.specs.declared.token.Symbol.{Symbol}
use Rattle.zir_grammar.specs.Grammar.{ident, field, plain_type, struct_type, array_type, prefix_token, IsType, type_word, type_name, type_array, IsField, typed_name, IsMoreFields, last_field, more_fields, IsParams, no_params, params, IsBinary, unary, operands, IsOperands, no_operand, operand, IsUnary, prefixed, primary, IsPosts, no_post, index, slice, part, IsPrimary, number, bit_value, true_value, false_value, unit_value, variable, call, enclosed, array, convert, complex, IsArgs, no_args, args, IsMoreExprs, last_expr, more_exprs, plain_var, set_var, IsVar, var_alone, var_set, IsBounds, bounds, IsTarget, target, target_index, target_slice, target_part, IsStmt, declares, assigns, calls, errors, tests, chooses, turns, counts, IsStmts, stmts, IsMoreStmts, no_stmt, last_stmt, more_stmts, plain_body, result_body, IsMoreBody, no_more, ends, goes_on, returns, returns_stopped, IsBody, body, IsAtom, take_atom, takes_atom, emit_atom, emits_atom, return_atom, do_atom, repeat_atom, hinted_atom, while_atom, until_atom, times_atom, for_atom, if_atom, map_atom, filter_atom, call_atom, block_atom, enclosed_atom, IsChain, atom, links, IsLinks, no_link, join, IsBlock, block, IsMembers, binds, member_var, member_runs, last_member, last_stopped, IsResult, no_result, result, IsDecl, declares_var, declares_struct, declares_function, declares_comp, IsDecls, no_decl, more_decls, IsProg, program}
use Rattle.zir_print.specs.Marks.{nowhere}
use Rattle.zir_text_laws.specs.Laws.{lexemes}
use Rattle.zir_place_laws.specs.Bare.{if_some, bare_ident, bare_type, bare_field, bare_expr, bare_var, bare_access, bare_stmt, bare_body, bare_comp, bare_member, bare_decl, bare}
use Rattle.zir_place_laws.proofs.Lists.{Places, placed, Again, same_more}
use Rattle.zir_place_laws.proofs.Bares.{same_unary, same_binary, same_index, same_slice, same_part, same_convert, same_complex, same_call, same_array, same_if, same_if_else, same_loop, same_count, same_repeat, same_while, same_times, same_for, same_branch, same_pipe, same_block}

-- ---- types and fields

type_again : {t : TypeExpr} {ts rest : List Token} → IsType t ts rest → (ps : Places ts) → Again bare_type IsType t (placed ts ps) rest
type_again (type_word {b = b} is) ps = record { tree = plain_type b ps.0; left = ps.1; is = type_word is; same = refl }
type_again (type_name {x = x}) ps = record { tree = struct_type x ps.0; left = ps.1; is = type_name; same = refl }
type_again (type_array {n = n} x) ps =
    let y = type_again x ps.1.1.1.1 in
    record { tree = array_type n ps.0 y.tree; left = y.left; is = type_array y.is; same = ap (array_type n nowhere) y.same }

field_again : {f : Field} {ts rest : List Token} → IsField f ts rest → (ps : Places ts) → Again bare_field IsField f (placed ts ps) rest
field_again (typed_name {x = x} a) ps =
    let y = type_again a ps.1.1 in
    record { tree = field x ps.0 y.tree; left = y.left; is = typed_name y.is; same = ap (λ t. field x nowhere t) y.same }

fields_again : {between closing : Symbol} {done fs : List Field} {ts rest : List Token} → IsMoreFields between closing done fs ts rest → (front : List Field) → map bare_field front ≡ map bare_field done → (ps : Places ts)
    → Again (map bare_field) (IsMoreFields between closing front) fs (placed ts ps) rest
fields_again last_field front e ps = record { tree = front; left = ps.1; is = last_field; same = e }
fields_again (more_fields {done = done} {f = f} x more) front e ps =
    let y = field_again x ps.1 in
    let z = fields_again more (front ++ y.tree ∷ []) (same_more bare_field front done y.tree f e y.same) y.left in
    record { tree = z.tree; left = z.left; is = more_fields y.is z.is; same = z.same }

params_again : {fs : List Field} {ts rest : List Token} → IsParams fs ts rest → (ps : Places ts) → Again (map bare_field) IsParams fs (placed ts ps) rest
params_again no_params ps = record { tree = []; left = ps.1; is = no_params; same = refl }
params_again (params {f = f} x more) ps =
    let y = field_again x ps in
    let z = fields_again more (y.tree ∷ []) (ap (λ g. g ∷ []) y.same) y.left in
    record { tree = z.tree; left = z.left; is = params y.is z.is; same = z.same }

-- ---- expressions

-- an expression at other places
abbrev ExprAgain : (Expr → List Token → List Token → Type 0) → Expr → List Token → List Token → Type 0
ExprAgain = Again bare_expr

prefix_moved : (op : Prefix) (p q : Place) → record { lexeme = (prefix_token op p).lexeme; at = q } ≡ prefix_token op q
prefix_moved prefix.Minus p q = refl
prefix_moved prefix.Complement p q = refl
prefix_moved prefix.Not p q = refl

mutual
  binary_again : {n : ℕ} {e : Expr} {h : ℕ} {ts rest : List Token} → IsBinary n e h ts rest → (ps : Places ts) → ExprAgain (λ t. IsBinary n t h) e (placed ts ps) rest
  binary_again (unary x) ps = let y = unary_again x ps in record { tree = y.tree; left = y.left; is = unary y.is; same = y.same }
  binary_again (operands x more) ps =
      let y = binary_again x ps in
      let z = operands_again more y.tree y.same y.left in
      record { tree = z.tree; left = z.left; is = operands y.is z.is; same = z.same }

  operands_again : {n low h : ℕ} {first e : Expr} {ts rest : List Token} → IsOperands n first low e h ts rest → (front : Expr) → bare_expr front ≡ bare_expr first → (ps : Places ts)
      → ExprAgain (λ t. IsOperands n front low t h) e (placed ts ps) rest
  operands_again no_operand front e ps = record { tree = front; left = ps; is = no_operand; same = e }
  operands_again (operand {left = a} {right = b} {at = p} op rank x more) front e ps =
      let y = binary_again x ps.1 in
      let z = operands_again more (expr.Binary op base.Unit front y.tree ps.0) (same_binary op base.Unit front y.tree a b ps.0 p e y.same) y.left in
      record { tree = z.tree; left = z.left; is = operand op rank y.is z.is; same = z.same }

  unary_again : {e : Expr} {h : ℕ} {ts rest : List Token} → IsUnary e h ts rest → (ps : Places ts) → ExprAgain (λ t. IsUnary t h) e (placed ts ps) rest
  unary_again (prefixed {e = a} {h = h} {at = p} {ts = ts} {rest = rest} op x) ps =
      let y = unary_again x ps.1 in
      record {
        tree = expr.Unary op base.Unit y.tree ps.0;
        left = y.left;
        is =
            subst (λ t. IsUnary (expr.Unary op base.Unit y.tree ps.0) (suc h) (t ∷ placed ts ps.1) (placed rest y.left)) (sym (prefix_moved op p ps.0)) (prefixed op y.is);
        same = same_unary op base.Unit y.tree a ps.0 p y.same;
      }
  unary_again (primary x more) ps =
      let y = primary_again x ps in
      let z = posts_again more y.tree y.same y.left in
      record { tree = z.tree; left = z.left; is = primary y.is z.is; same = z.same }

  posts_again : {low h : ℕ} {of e : Expr} {ts rest : List Token} → IsPosts of low e h ts rest → (front : Expr) → bare_expr front ≡ bare_expr of → (ps : Places ts)
      → ExprAgain (λ t. IsPosts front low t h) e (placed ts ps) rest
  posts_again no_post front e ps = record { tree = front; left = ps; is = no_post; same = e }
  posts_again (index {of = a} {i = i} {at = p} x more) front e ps =
      let y = binary_again x ps.1 in
      let z = posts_again more (expr.Index front y.tree ps.0) (same_index front y.tree a i ps.0 p e y.same) y.left.1 in
      record { tree = z.tree; left = z.left; is = index y.is z.is; same = z.same }
  posts_again (slice {n = k} {of = a} {i = i} {at = p} x more) front e ps =
      let y = binary_again x ps.1 in
      let z = posts_again more (expr.Slice front y.tree k ps.0) (same_slice k front y.tree a i ps.0 p e y.same) y.left.1.1.1 in
      record { tree = z.tree; left = z.left; is = slice y.is z.is; same = z.same }
  posts_again (part {of = a} {x = x} {at = p} more) front e ps =
      let z = posts_again more (expr.Part front x 0 ps.0) (same_part x 0 front a ps.0 p e) ps.1.1 in
      record { tree = z.tree; left = z.left; is = part z.is; same = z.same }

  primary_again : {e : Expr} {h : ℕ} {ts rest : List Token} → IsPrimary e h ts rest → (ps : Places ts) → ExprAgain (λ t. IsPrimary t h) e (placed ts ps) rest
  primary_again (number {n = n}) ps = record { tree = expr.Int (pos n) base.Unit ps.0; left = ps.1; is = number; same = refl }
  primary_again (bit_value {b = b}) ps = record { tree = expr.Bit b ps.0; left = ps.1; is = bit_value; same = refl }
  primary_again true_value ps = record { tree = expr.Bool true ps.0; left = ps.1; is = true_value; same = refl }
  primary_again false_value ps = record { tree = expr.Bool false ps.0; left = ps.1; is = false_value; same = refl }
  primary_again unit_value ps = record { tree = expr.Unit ps.0; left = ps.1.1; is = unit_value; same = refl }
  primary_again (variable {x = x}) ps = record { tree = expr.Variable (ident x ps.0); left = ps.1; is = variable; same = refl }
  primary_again (call {x = x} {es = es} {at = p} more) ps =
      let y = args_again more ps.1.1 in
      record {
        tree = expr.Call (ident x ps.0) (callee.Function 0) y.tree;
        left = y.left;
        is = call y.is;
        same = same_call (ident x ps.0) (ident x p) (callee.Function 0) y.tree es refl y.same;
      }
  primary_again (enclosed x) ps = let y = binary_again x ps.1 in record { tree = y.tree; left = y.left.1; is = enclosed y.is; same = y.same }
  primary_again (array {e = e} {es = es} {at = p} x more) ps =
      let y = binary_again x ps.1 in
      let z = exprs_again more (y.tree ∷ []) (ap (λ t. t ∷ []) y.same) y.left in
      record { tree = expr.Array z.tree ps.0; left = z.left; is = array y.is z.is; same = same_array z.tree es ps.0 p z.same }
  primary_again (convert {b = b} {e = a} {at = p} is x) ps =
      let y = binary_again x ps.1.1 in
      record { tree = expr.Convert b y.tree ps.0; left = y.left.1; is = convert is y.is; same = same_convert b y.tree a ps.0 p y.same }
  primary_again (complex {b = b} {re = re} {im = im} {at = p} is x more) ps =
      let y = binary_again x ps.1.1 in
      let z = binary_again more y.left.1 in
      record {
        tree = expr.Complex b y.tree z.tree ps.0;
        left = z.left.1;
        is = complex is y.is z.is;
        same = same_complex b y.tree z.tree re im ps.0 p y.same z.same;
      }

  args_again : {es : List Expr} {h : ℕ} {ts rest : List Token} → IsArgs es h ts rest → (ps : Places ts) → Again (map bare_expr) (λ l. IsArgs l h) es (placed ts ps) rest
  args_again no_args ps = record { tree = []; left = ps.1; is = no_args; same = refl }
  args_again (args x more) ps =
      let y = binary_again x ps in
      let z = exprs_again more (y.tree ∷ []) (ap (λ t. t ∷ []) y.same) y.left in
      record { tree = z.tree; left = z.left; is = args y.is z.is; same = z.same }

  exprs_again : {closing : Symbol} {done es : List Expr} {low h : ℕ} {ts rest : List Token} → IsMoreExprs closing done low es h ts rest → (front : List Expr) → map bare_expr front ≡ map bare_expr done → (ps : Places ts)
      → Again (map bare_expr) (λ l. IsMoreExprs closing front low l h) es (placed ts ps) rest
  exprs_again last_expr front e ps = record { tree = front; left = ps.1; is = last_expr; same = e }
  exprs_again (more_exprs {done = done} {e = a} x more) front e ps =
      let y = binary_again x ps.1 in
      let z = exprs_again more (front ++ y.tree ∷ []) (same_more bare_expr front done y.tree a e y.same) y.left in
      record { tree = z.tree; left = z.left; is = more_exprs y.is z.is; same = z.same }

-- ---- variables, bounds and paths

var_again : {v : Var} {h : ℕ} {ts rest : List Token} → IsVar v h ts rest → (ps : Places ts) → Again bare_var (λ w. IsVar w h) v (placed ts ps) rest
var_again (var_alone x) ps =
    let y = field_again x ps.1 in
    record { tree = plain_var y.tree ps.0; left = y.left; is = var_alone y.is; same = ap (λ f. plain_var f nowhere) y.same }
var_again (var_set x b) ps =
    let y = field_again x ps.1 in
    let z = binary_again b y.left.1 in
    record { tree = set_var y.tree z.tree ps.0; left = z.left; is = var_set y.is z.is; same = ap₂ (λ f e. set_var f e nowhere) y.same z.same }

-- the head of a counted loop at other places
record BoundsAgain (x : Ident) (from count : Expr) (h : ℕ) (us rest : List Token) : Type 0 where
  name : Ident
  first : Expr
  number : Expr
  left : Places rest
  is : IsBounds name first number h us (placed rest left)
  same_name : bare_ident name ≡ bare_ident x
  same_first : bare_expr first ≡ bare_expr from
  same_number : bare_expr number ≡ bare_expr count

bounds_again : {x : Ident} {from count : Expr} {h : ℕ} {ts rest : List Token} → IsBounds x from count h ts rest → (ps : Places ts) → BoundsAgain x from count h (placed ts ps) rest
bounds_again (bounds {x = x} a b) ps =
    let y = binary_again a ps.1.1.1 in
    let z = binary_again b y.left.1 in
    record {
      name = ident x ps.0;
      first = y.tree;
      number = z.tree;
      left = z.left.1;
      is = bounds y.is z.is;
      same_name = refl;
      same_first = y.same;
      same_number = z.same;
    }

path_again : {done path : List Access} {low h : ℕ} {ts rest : List Token} → IsTarget done low path h ts rest → (front : List Access) → map bare_access front ≡ map bare_access done → (ps : Places ts)
    → Again (map bare_access) (λ l. IsTarget front low l h) path (placed ts ps) rest
path_again target front e ps = record { tree = front; left = ps.1; is = target; same = e }
path_again (target_index {done = done} {i = i} {at = p} x more) front e ps =
    let y = binary_again x ps.1 in
    let z = path_again more (front ++ access.Index y.tree ps.0 ∷ []) (same_more bare_access front done (access.Index y.tree ps.0) (access.Index i p) e (ap (λ t. access.Index t nowhere) y.same)) y.left.1 in
    record { tree = z.tree; left = z.left; is = target_index y.is z.is; same = z.same }
path_again (target_slice {done = done} {i = i} {n = k} {at = p} x more) front e ps =
    let y = binary_again x ps.1 in
    let z = path_again more (front ++ access.Slice y.tree k ps.0 ∷ []) (same_more bare_access front done (access.Slice y.tree k ps.0) (access.Slice i k p) e (ap (λ t. access.Slice t k nowhere) y.same)) y.left.1.1.1 in
    record { tree = z.tree; left = z.left; is = target_slice y.is z.is; same = z.same }
path_again (target_part {done = done} {x = x} {at = p} more) front e ps =
    let z = path_again more (front ++ access.Part x 0 ps.0 ∷ []) (same_more bare_access front done (access.Part x 0 ps.0) (access.Part x 0 p) e refl) ps.1.1 in
    record { tree = z.tree; left = z.left; is = target_part z.is; same = z.same }

-- ---- statements

mutual
  stmt_again : {s : Stmt} {h : ℕ} {ts rest : List Token} → IsStmt s h ts rest → (ps : Places ts) → Again bare_stmt (λ t. IsStmt t h) s (placed ts ps) rest
  stmt_again (declares x) ps = let y = var_again x ps in record { tree = stmt.Var y.tree; left = y.left; is = declares y.is; same = ap (λ v. stmt.Var v) y.same }
  stmt_again (assigns {x = x} a b) ps =
      let y = path_again a [] refl ps.1 in
      let z = binary_again b y.left in
      record { tree = stmt.Assign (ident x ps.0) y.tree z.tree; left = z.left; is = assigns y.is z.is; same = ap₂ (λ l e. stmt.Assign (ident x nowhere) l e) y.same z.same }
  stmt_again (calls {x = x} more) ps =
      let y = args_again more ps.1.1 in
      record { tree = stmt.Call (ident x ps.0) 0 y.tree; left = y.left; is = calls y.is; same = ap (λ l. stmt.Call (ident x nowhere) 0 l) y.same }
  stmt_again (errors {s = s}) ps = record { tree = stmt.Error s ps.0; left = ps.1.1; is = errors; same = refl }
  stmt_again (tests {e = e} {ss = ss} {at = p} b x) ps =
      let y = binary_again b ps.1 in
      let z = stmts_again x y.left.1 in
      record { tree = stmt.If y.tree z.tree ps.0; left = z.left; is = tests y.is z.is; same = same_if y.tree e z.tree ss ps.0 p y.same z.same }
  stmt_again (chooses {e = e} {ss = ss} {os = os} {at = p} b x d) ps =
      let y = binary_again b ps.1 in
      let z = stmts_again x y.left.1 in
      let o = stmts_again d z.left.1 in
      record {
        tree = stmt.IfElse y.tree z.tree o.tree ps.0;
        left = o.left;
        is = chooses y.is z.is o.is;
        same = same_if_else y.tree e z.tree ss o.tree os ps.0 p y.same z.same o.same;
      }
  stmt_again (turns {e = e} {ss = ss} {at = p} b x) ps =
      let y = binary_again b ps.1.1 in
      let z = stmts_again x y.left.1 in
      record { tree = stmt.While y.tree z.tree ps.0; left = z.left; is = turns y.is z.is; same = same_loop y.tree e z.tree ss ps.0 p y.same z.same }
  stmt_again (counts {x = i} {from = from} {count = count} {ss = ss} {at = p} b x) ps =
      let y = bounds_again b ps.1 in
      let z = stmts_again x y.left in
      record {
        tree = stmt.For y.name y.first y.number z.tree ps.0;
        left = z.left;
        is = counts y.is z.is;
        same = same_count y.name i y.first y.number from count z.tree ss ps.0 p y.same_name y.same_first y.same_number z.same;
      }

  stmts_again : {ss : List Stmt} {h : ℕ} {ts rest : List Token} → IsStmts ss h ts rest → (ps : Places ts) → Again (map bare_stmt) (λ l. IsStmts l h) ss (placed ts ps) rest
  stmts_again (stmts x) ps = let y = more_stmts_again x [] refl ps.1 in record { tree = y.tree; left = y.left; is = stmts y.is; same = y.same }

  more_stmts_again : {done ss : List Stmt} {low h : ℕ} {ts rest : List Token} → IsMoreStmts done low ss h ts rest → (front : List Stmt) → map bare_stmt front ≡ map bare_stmt done → (ps : Places ts)
      → Again (map bare_stmt) (λ l. IsMoreStmts front low l h) ss (placed ts ps) rest
  more_stmts_again no_stmt front e ps = record { tree = front; left = ps.1; is = no_stmt; same = e }
  more_stmts_again (last_stmt {done = done} {s = s} x) front e ps =
      let y = stmt_again x ps in
      record { tree = front ++ y.tree ∷ []; left = y.left.1; is = last_stmt y.is; same = same_more bare_stmt front done y.tree s e y.same }
  more_stmts_again (more_stmts {done = done} {s = s} x more) front e ps =
      let y = stmt_again x ps in
      let z = more_stmts_again more (front ++ y.tree ∷ []) (same_more bare_stmt front done y.tree s e y.same) y.left.1 in
      record { tree = z.tree; left = z.left; is = more_stmts y.is z.is; same = z.same }

-- ---- bodies

-- a body without its places, from its statements and its value without theirs
abbrev bare_result : List Stmt → Expr → Body
bare_result ss e = result_body ss e nowhere

more_body_again : {done : List Stmt} {b : Body} {low h : ℕ} {ts rest : List Token} → IsMoreBody done low b h ts rest → (front : List Stmt) → map bare_stmt front ≡ map bare_stmt done → (ps : Places ts)
    → Again bare_body (λ l. IsMoreBody front low l h) b (placed ts ps) rest
more_body_again no_more front e ps = record { tree = plain_body front; left = ps.1; is = no_more; same = ap plain_body e }
more_body_again (ends {done = done} {s = s} x) front e ps =
    let y = stmt_again x ps in
    record { tree = plain_body (front ++ y.tree ∷ []); left = y.left.1; is = ends y.is; same = ap plain_body (same_more bare_stmt front done y.tree s e y.same) }
more_body_again (goes_on {done = done} {s = s} x more) front e ps =
    let y = stmt_again x ps in
    let z = more_body_again more (front ++ y.tree ∷ []) (same_more bare_stmt front done y.tree s e y.same) y.left.1 in
    record { tree = z.tree; left = z.left; is = goes_on y.is z.is; same = z.same }
more_body_again (returns x) front e ps =
    let y = binary_again x ps.1 in
    record { tree = result_body front y.tree ps.0; left = y.left.1; is = returns y.is; same = ap₂ bare_result e y.same }
more_body_again (returns_stopped x) front e ps =
    let y = binary_again x ps.1 in
    record { tree = result_body front y.tree ps.0; left = y.left.1.1; is = returns_stopped y.is; same = ap₂ bare_result e y.same }

body_again : {b : Body} {h : ℕ} {ts rest : List Token} → IsBody b h ts rest → (ps : Places ts) → Again bare_body (λ c. IsBody c h) b (placed ts ps) rest
body_again (body x) ps = let y = more_body_again x [] refl ps.1 in record { tree = y.tree; left = y.left; is = body y.is; same = y.same }

-- ---- components

-- a component at other places
abbrev CompAgain : (Comp → List Token → List Token → Type 0) → Comp → List Token → List Token → Type 0
CompAgain = Again bare_comp

run_more : (front done : List Member) (c d : Comp) → map bare_member front ≡ map bare_member done → bare_comp c ≡ bare_comp d → map bare_member (front ++ member.Run c ∷ []) ≡ map bare_member (done ++ member.Run d ∷ [])
run_more front done c d e same = same_more bare_member front done (member.Run c) (member.Run d) e (ap (λ t. member.Run t) same)

mutual
  atom_again : {c : Comp} {h : ℕ} {ts rest : List Token} → IsAtom c h ts rest → (ps : Places ts) → CompAgain (λ t. IsAtom t h) c (placed ts ps) rest
  atom_again take_atom ps = record { tree = comp.Take ps.0; left = ps.1; is = take_atom; same = refl }
  atom_again (takes_atom {n = n}) ps = record { tree = comp.Takes n ps.0; left = ps.1.1; is = takes_atom; same = refl }
  atom_again (emit_atom x) ps = let y = binary_again x ps.1 in record { tree = comp.Emit y.tree ps.0; left = y.left; is = emit_atom y.is; same = ap (λ e. comp.Emit e nowhere) y.same }
  atom_again (emits_atom x) ps = let y = binary_again x ps.1 in record { tree = comp.Emits y.tree ps.0; left = y.left; is = emits_atom y.is; same = ap (λ e. comp.Emits e nowhere) y.same }
  atom_again (return_atom x) ps = let y = binary_again x ps.1 in record { tree = comp.Return y.tree ps.0; left = y.left; is = return_atom y.is; same = ap (λ e. comp.Return e nowhere) y.same }
  atom_again (do_atom x) ps = let y = body_again x ps.1 in record { tree = comp.Do y.tree ps.0; left = y.left; is = do_atom y.is; same = ap (λ b. comp.Do b nowhere) y.same }
  atom_again (repeat_atom {c = c} {at = p} x) ps =
      let y = atom_again x ps.1 in
      record { tree = comp.Repeat y.tree ps.0; left = y.left; is = repeat_atom y.is; same = same_repeat y.tree c ps.0 p y.same }
  atom_again (hinted_atom {c = c} {at = p} x) ps =
      let y = atom_again x ps.1.1.1.1.1.1 in
      record { tree = comp.Repeat y.tree ps.0; left = y.left; is = hinted_atom y.is; same = same_repeat y.tree c ps.0 p y.same }
  atom_again (while_atom {e = e} {c = c} {at = p} b x) ps =
      let y = binary_again b ps.1.1 in
      let z = atom_again x y.left.1 in
      record { tree = comp.While turning.While y.tree z.tree ps.0; left = z.left; is = while_atom y.is z.is; same = same_while turning.While y.tree e z.tree c ps.0 p y.same z.same }
  atom_again (until_atom {e = e} {c = c} {at = p} b x) ps =
      let y = binary_again b ps.1.1 in
      let z = atom_again x y.left.1 in
      record { tree = comp.While turning.Until y.tree z.tree ps.0; left = z.left; is = until_atom y.is z.is; same = same_while turning.Until y.tree e z.tree c ps.0 p y.same z.same }
  atom_again (times_atom {e = e} {c = c} {at = p} b x) ps =
      let y = binary_again b ps.1.1 in
      let z = atom_again x y.left.1 in
      record { tree = comp.Times y.tree z.tree ps.0; left = z.left; is = times_atom y.is z.is; same = same_times y.tree e z.tree c ps.0 p y.same z.same }
  atom_again (for_atom {x = i} {from = from} {count = count} {c = c} {at = p} b x) ps =
      let y = bounds_again b ps.1 in
      let z = atom_again x y.left in
      record {
        tree = comp.For y.name y.first y.number z.tree ps.0;
        left = z.left;
        is = for_atom y.is z.is;
        same = same_for y.name i y.first from y.number count z.tree c ps.0 p y.same_name y.same_first y.same_number z.same;
      }
  atom_again (if_atom {e = e} {c = c} {d = d} {at = p} b x f) ps =
      let y = binary_again b ps.1 in
      let z = atom_again x y.left.1 in
      let o = atom_again f z.left.1 in
      record {
        tree = comp.If y.tree z.tree o.tree ps.0;
        left = o.left;
        is = if_atom y.is z.is o.is;
        same = same_branch y.tree e z.tree c o.tree d ps.0 p y.same z.same o.same;
      }
  atom_again (map_atom {x = x}) ps = record { tree = comp.Map (ident x ps.1.0) 0 ps.0; left = ps.1.1; is = map_atom; same = refl }
  atom_again (filter_atom {x = x}) ps = record { tree = comp.Filter (ident x ps.1.0) 0 ps.0; left = ps.1.1; is = filter_atom; same = refl }
  atom_again (call_atom {x = x} more) ps =
      let y = args_again more ps.1.1 in
      record { tree = comp.Call (ident x ps.0) 0 y.tree; left = y.left; is = call_atom y.is; same = ap (λ l. comp.Call (ident x nowhere) 0 l) y.same }
  atom_again (block_atom x) ps = let y = block_again x ps in record { tree = y.tree; left = y.left; is = block_atom y.is; same = y.same }
  atom_again (enclosed_atom x) ps = let y = chain_again x ps.1 in record { tree = y.tree; left = y.left.1; is = enclosed_atom y.is; same = y.same }

  chain_again : {n : ℕ} {c : Comp} {h : ℕ} {ts rest : List Token} → IsChain n c h ts rest → (ps : Places ts) → CompAgain (λ t. IsChain n t h) c (placed ts ps) rest
  chain_again (atom x) ps = let y = atom_again x ps in record { tree = y.tree; left = y.left; is = atom y.is; same = y.same }
  chain_again (links x more) ps =
      let y = chain_again x ps in
      let z = links_again more y.tree y.same y.left in
      record { tree = z.tree; left = z.left; is = links y.is z.is; same = z.same }

  links_again : {n low h : ℕ} {first c : Comp} {ts rest : List Token} → IsLinks n first low c h ts rest → (front : Comp) → bare_comp front ≡ bare_comp first → (ps : Places ts)
      → CompAgain (λ t. IsLinks n front low t h) c (placed ts ps) rest
  links_again no_link front e ps = record { tree = front; left = ps; is = no_link; same = e }
  links_again (join {left = a} {right = b} {at = p} l rank x more) front e ps =
      let y = chain_again x ps.1 in
      let z = links_again more (comp.Pipe l front y.tree ps.0) (same_pipe l front y.tree a b ps.0 p e y.same) y.left in
      record { tree = z.tree; left = z.left; is = join l rank y.is z.is; same = z.same }

  block_again : {c : Comp} {h : ℕ} {ts rest : List Token} → IsBlock c h ts rest → (ps : Places ts) → CompAgain (λ t. IsBlock t h) c (placed ts ps) rest
  block_again (block {ms = ms} {at = p} x) ps =
      let y = members_again x [] refl ps.1 in
      record { tree = comp.Block y.tree ps.0; left = y.left; is = block y.is; same = same_block y.tree ms ps.0 p y.same }

  members_again : {done ms : List Member} {low h : ℕ} {ts rest : List Token} → IsMembers done low ms h ts rest → (front : List Member) → map bare_member front ≡ map bare_member done → (ps : Places ts)
      → Again (map bare_member) (λ l. IsMembers front low l h) ms (placed ts ps) rest
  members_again (binds {done = done} {x = x} {c = c} {at = p} a more) front e ps =
      let y = chain_again a ps.1.1 in
      let new : Member = member.Bind (ident x ps.0) y.tree in
      let z = members_again more (front ++ new ∷ []) (same_more bare_member front done new (member.Bind (ident x p) c) e (ap (λ t. member.Bind (ident x nowhere) t) y.same)) y.left.1 in
      record { tree = z.tree; left = z.left; is = binds y.is z.is; same = z.same }
  members_again (member_var {done = done} {v = v} a more) front e ps =
      let y = var_again a ps in
      let z = members_again more (front ++ member.Var y.tree ∷ []) (same_more bare_member front done (member.Var y.tree) (member.Var v) e (ap (λ w. member.Var w) y.same)) y.left.1 in
      record { tree = z.tree; left = z.left; is = member_var y.is z.is; same = z.same }
  members_again (member_runs {done = done} {c = c} a more) front e ps =
      let y = chain_again a ps in
      let z = members_again more (front ++ member.Run y.tree ∷ []) (run_more front done y.tree c e y.same) y.left.1 in
      record { tree = z.tree; left = z.left; is = member_runs y.is z.is; same = z.same }
  members_again (last_member {done = done} {c = c} a) front e ps =
      let y = chain_again a ps in
      record { tree = front ++ member.Run y.tree ∷ []; left = y.left.1; is = last_member y.is; same = run_more front done y.tree c e y.same }
  members_again (last_stopped {done = done} {c = c} a) front e ps =
      let y = chain_again a ps in
      record { tree = front ++ member.Run y.tree ∷ []; left = y.left.1.1; is = last_stopped y.is; same = run_more front done y.tree c e y.same }

-- ---- declarations and programs

result_again : {t : Option TypeExpr} {ts rest : List Token} → IsResult t ts rest → (ps : Places ts) → Again (if_some bare_type) IsResult t (placed ts ps) rest
result_again no_result ps = record { tree = None; left = ps; is = no_result; same = refl }
result_again (result x) ps = let y = type_again x ps.1 in record { tree = Some y.tree; left = y.left; is = result y.is; same = ap (λ t. Some t) y.same }

decl_again : {d : Decl} {h : ℕ} {ts rest : List Token} → IsDecl d h ts rest → (ps : Places ts) → Again bare_decl (λ e. IsDecl e h) d (placed ts ps) rest
decl_again (declares_var x) ps = let y = var_again x ps in record { tree = decl.Var y.tree; left = y.left.1; is = declares_var y.is; same = ap (λ v. decl.Var v) y.same }
decl_again (declares_struct {x = x} a more) ps =
    let y = field_again a ps.1.1.1.1 in
    let z = fields_again more (y.tree ∷ []) (ap (λ f. f ∷ []) y.same) y.left in
    record {
      tree = decl.Struct (record { name = ident x ps.1.0; fields = z.tree; at = ps.0 });
      left = z.left;
      is = declares_struct y.is z.is;
      same = ap (λ fs. decl.Struct (record { name = ident x nowhere; fields = fs; at = nowhere })) z.same;
    }
decl_again (declares_function {x = x} {fs = fs} {t = t} {b = b} a g k) ps =
    let y = params_again a ps.1.1.1 in
    let z = result_again g y.left in
    let o = body_again k z.left in
    record {
      tree = decl.Function (record { name = ident x ps.1.0; params = y.tree; result = z.tree; body = o.tree; at = ps.0 });
      left = o.left;
      is = declares_function y.is z.is o.is;
      same =
          ap (λ l. decl.Function (record { name = ident x nowhere; params = l; result = if_some bare_type z.tree; body = bare_body o.tree; at = nowhere })) y.same
          ∙ ap₂ (λ u c. decl.Function (record { name = ident x nowhere; params = map bare_field fs; result = u; body = c; at = nowhere })) z.same o.same;
    }
decl_again (declares_comp {x = x} a k) ps =
    let y = params_again a ps.1.1.1.1 in
    let z = block_again k y.left in
    record {
      tree = decl.Comp (record { name = ident x ps.1.1.0; params = y.tree; body = z.tree; at = ps.0 });
      left = z.left;
      is = declares_comp y.is z.is;
      same = ap₂ (λ l c. decl.Comp (record { name = ident x nowhere; params = l; body = c; at = nowhere })) y.same z.same;
    }

decls_again : {done ds : List Decl} {low h : ℕ} {ts rest : List Token} → IsDecls done low ds h ts rest → (front : List Decl) → map bare_decl front ≡ map bare_decl done → (ps : Places ts)
    → Again (map bare_decl) (λ l. IsDecls front low l h) ds (placed ts ps) rest
decls_again no_decl front e ps = record { tree = front; left = ps; is = no_decl; same = e }
decls_again (more_decls {done = done} {d = d} x more) front e ps =
    let y = decl_again x ps in
    let z = decls_again more (front ++ y.tree ∷ []) (same_more bare_decl front done y.tree d e y.same) y.left in
    record { tree = z.tree; left = z.left; is = more_decls y.is z.is; same = z.same }

-- a program that tokens spell at a height, the same as another places apart
abbrev pub SpellsSame : List Token → Prog → ℕ → Type 0
SpellsSame us p h = (q : Prog) × IsProg us q h × (bare q ≡ bare p)

prog_again : {ts : List Token} {p : Prog} {h : ℕ} → IsProg ts p h → (ps : Places ts) → SpellsSame (placed ts ps) p h
prog_again (program {ds = ds} {from = from} {to = to} {c = c} a x b y) ps =
    let d = decls_again a [] refl ps in
    let read = type_again x d.left.1.1.1.1.1.1 in
    let main = chain_again b read.left.1.1 in
    let wrote = type_again y main.left.1.1.1 in
    let tree : Prog = record { declarations = d.tree; input = read.tree; main = main.tree; output = wrote.tree; at = d.left.0 } in (
      tree,
      program d.is read.is main.is wrote.is,
      ap₂ (λ l t. record { declarations = l; input = t; main = bare_comp main.tree; output = bare_type wrote.tree; at = nowhere }) d.same read.same
          ∙ ap₂ (λ m t. record { declarations = map bare_decl ds; input = bare_type from; main = m; output = t; at = nowhere }) main.same wrote.same,
    )

-- ---- tokens

abbrev IfSome : List Lexeme → Type 0
IfSome [] = ⊥
IfSome (w ∷ ws) = Unit {0}

abbrev first_or : Lexeme → List Lexeme → Lexeme
first_or w [] = w
first_or w (v ∷ ws) = v

abbrev behind : List Lexeme → List Lexeme
behind [] = []
behind (w ∷ ws) = ws

-- where the lexemes are the same, the tokens are those at some places
placed_all : (ts us : List Token) → lexemes us ≡ lexemes ts → (ps : Places ts) × (placed ts ps ≡ us)
placed_all [] [] e = (tt, refl)
placed_all [] (u ∷ us) e = absurd (subst IfSome e tt)
placed_all (t ∷ ts) [] e = absurd (subst IfSome (sym e) tt)
placed_all (t ∷ ts) (u ∷ us) e =
    let more = placed_all ts us (ap behind e) in
    ((u.at, more.0), ap₂ (λ w l. record { lexeme = w; at = u.at } ∷ l) (sym (ap (λ l. first_or t.lexeme l) e)) more.1)

pub prog_moved : (ts us : List Token) (p : Prog) (h : ℕ) → lexemes us ≡ lexemes ts → IsProg ts p h → SpellsSame us p h
prog_moved ts us p h e is = let all = placed_all ts us e in subst (λ l. SpellsSame l p h) all.1 (prog_again is all.0)
