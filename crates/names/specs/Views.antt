-- What a view stands for.
use Rattle.std.specs.Prelude.{ℕ, List}
use Rattle.names.specs.declared.view.View.{View}
use Rattle.names.specs.Scopes.{Env, env_of}

-- the file's bytes
abbrev pub file_of : View → List ℕ
file_of v = v.script.over.file.now

-- the names in scope
abbrev pub env_at : View → Env
env_at v = env_of (file_of v) v.names.now v.mark
