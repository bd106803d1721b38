-- The nodes of a resolved program. A variable stands in each node that names it, and a call has the called procedure itself in it: a
-- procedure calls only those that ended before it, so that is a finite tree.
use Rattle.std.specs.Prelude.{ℕ, Bool, List, ℤ}
use Rattle.program.specs.Types.{Simple, Writing, Shape, Fields}

-- where a node stands: its place in the text, and the module whose text it is
pub record At : Type 0 where
  pub place : ℕ
  pub inside : ℕ

-- What a text declares with cells: a variable, a const formal or a result. Its name, its type, its first cell, the module that declares it,
-- and whether it is fixed, as const formals are: nothing but an entry changes them.
pub record Variable : Type 0 where
  pub name : List ℕ
  pub shape : Shape
  pub cell : ℕ
  pub inside : ℕ
  pub fixed : Bool

pub data Sign : Type 0 where
  plus_sign minus_sign not_sign : Sign

pub data Operator : Type 0 where
  plus minus times over div modulo xor eq ne lt le gt ge : Operator

pub data Junction : Type 0 where
  and or : Junction

-- a variable by its own name, or a var formal of the procedure around, counted from the last
pub data Name : Type 0 where
  own : Variable → Name
  formal : (number : ℕ) → Name

-- a formal: a const formal is a variable with a cell, a var formal has none
pub data Formal : Type 0 where
  by_const : Variable → Simple → Formal
  by_var : Shape → Formal

mutual
  pub data Expr : Type 0 where
    -- with its type
    constant : At → Simple → ℤ → Expr
    value : At → Simple → Designator → Expr
    register : At → Simple → (address : ℕ) → Expr
    unary : At → Sign → Expr → Expr
    -- with the type of its operands
    binary : At → Operator → Simple → Expr → Expr → Expr
    junction : At → Junction → Expr → Expr → Expr
    apply : At → Function → Actuals → Expr

  -- a name with its selectors, each with the type that it opens
  pub data Designator : Type 0 where
    whole : Name → Designator
    element : At → Designator → Writing → (low high : ℤ) → Shape → Expr → Designator
    part : At → Designator → Writing → Fields → (offset : ℕ) → Designator

  pub data Actuals : Type 0 where
    no_more : Actuals
    a_value : Expr → Actuals → Actuals
    a_variable : Designator → Actuals → Actuals

  pub data Stmt : Type 0 where
    skip : Stmt
    seq : Stmt → Stmt → Stmt
    -- with the type of the target
    assign : At → Simple → Designator → Expr → Stmt
    -- an assignment to a register
    offer : At → Simple → (address : ℕ) → Expr → Stmt
    if : Arms → Stmt
    while : At → (test : At) → Expr → Stmt → Stmt
    repeat : At → Stmt → (test : At) → Expr → Stmt
    loop : At → Parts → Stmt
    call : At → Procedure → Actuals → Stmt

  -- if, elsif and else
  pub data Arms : Type 0 where
    otherwise : Stmt → Arms
    arm : (test : At) → Expr → Stmt → Arms → Arms

  -- a loop's block, and for each `when` what stands before it, its condition, its `do` part, and the rest
  pub data Parts : Type 0 where
    ends : Stmt → Parts
    exits : Stmt → (test : At) → Expr → Stmt → Parts → Parts

  -- a proper procedure: its module, its formals, its variables, its body
  pub data Procedure : Type 0 where
    procedure : (inside : ℕ) → List Formal → (variables : List Variable) → Stmt → Procedure

  -- a function procedure has a result too, with its type
  pub data Function : Type 0 where
    function : (inside : ℕ) → List Formal → (result : Variable) → Simple → (variables : List Variable) → Stmt → Function

-- A program: for each module the one around it (for the outermost 0, itself); all that has cells, in text order; the bodies of its
-- modules in the order in which they run.
pub record Program : Type 0 where
  pub modules : List ℕ
  pub variables : List Variable
  pub bodies : List Stmt
