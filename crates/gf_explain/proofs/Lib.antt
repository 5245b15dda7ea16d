mod Obeyed
mod Places
mod ShownTexts
