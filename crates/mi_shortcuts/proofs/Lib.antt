pub mod ShortcutLemmas
